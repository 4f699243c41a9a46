use Rattle.spec_text.proofs.whitespace.LastBytes.{tail_ascii}
use Rattle.spec_base.proofs.base.Laws.{calls}
use Rattle.spec_text.specs.whitespace.White.{white_tail}
use Rattle.whitespace.proofs.white.white_tail.Goals as goal

pub returns-then-a-lt128 : goal.returns-then-a-lt128
returns-then-a-lt128 c = search tail_ascii

pub returns-then-ends_white : goal.returns-then-ends_white
unfolding white_tail
returns-then-ends_white c = search calls depth 12

pub returns-then-ends_white-2 : goal.returns-then-ends_white-2
unfolding white_tail
returns-then-ends_white-2 c = search calls depth 12

pub returns-then-ends_white-3 : goal.returns-then-ends_white-3
unfolding white_tail
returns-then-ends_white-3 c = search calls depth 12

pub returns-else-ends_white-3 : goal.returns-else-ends_white-3
unfolding white_tail
returns-else-ends_white-3 c = search calls depth 12
