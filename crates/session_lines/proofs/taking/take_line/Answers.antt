use Rattle.spec_session.proofs.session_lines.PlainLaws.{line_plain}
use Rattle.session_lines.proofs.taking.take_line.Goals as goal

pub returns : goal.returns
returns c = search line_plain
