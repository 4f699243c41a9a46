use Rattle.spec_text.proofs.whitespace.Laws.{white_ascii}
use Rattle.whitespace.proofs.white.white_head.Goals as goal

pub returns-then-a-lt128 : goal.returns-then-a-lt128
returns-then-a-lt128 c = search white_ascii
