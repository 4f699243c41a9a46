use Rattle.spec_session.proofs.session_lines.BomLaws.{bom_stands}
use Rattle.session_lines.proofs.taking.has_bom.Goals as goal

pub returns : goal.returns
returns c = search bom_stands
