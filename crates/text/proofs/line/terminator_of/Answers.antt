use Rattle.spec_text.proofs.text.LineLaws.{terminator_found}
use Rattle.text.proofs.line.terminator_of.Goals as goal

pub returns : goal.returns
returns c = search terminator_found
