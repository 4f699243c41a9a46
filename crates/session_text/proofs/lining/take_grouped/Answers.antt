use Rattle.spec_session.proofs.session_lines.PlainLaws.{line_grouped}
use Rattle.session_text.proofs.lining.take_grouped.Goals as goal

pub returns : goal.returns
returns c = search line_grouped
