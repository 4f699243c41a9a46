use Rattle.spec_text.proofs.text.LineLaws.{text_found}
use Rattle.text.proofs.line.text_of.Goals as goal

pub returns : goal.returns
returns c = search text_found
