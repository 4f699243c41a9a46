use Rattle.spec_base.proofs.base.Laws.{chain}
use Rattle.spec_trim.specs.trim.Token.{range_of}
use Rattle.trim.proofs.token.range_of.Goals as goal

pub returns-then-b-a : goal.returns-then-b-a
unfolding range_of
returns-then-b-a c = search chain depth 12

pub returns-then-b-eq-MOST_FRAME : goal.returns-then-b-eq-MOST_FRAME
unfolding range_of
returns-then-b-eq-MOST_FRAME c = search chain depth 12

pub returns-else-b-eq-MOST_FRAME : goal.returns-else-b-eq-MOST_FRAME
unfolding range_of
returns-else-b-eq-MOST_FRAME c = search chain depth 12
