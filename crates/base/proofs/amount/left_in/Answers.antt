use Rattle.spec_base.proofs.base.Laws.{chain}
use Rattle.spec_base.specs.base.Refusal.{left_in}
use Rattle.base.proofs.amount.left_in.Goals as goal

pub returns-then-number-eq0 : goal.returns-then-number-eq0
unfolding left_in
returns-then-number-eq0 c = search chain depth 12

pub returns-else-number-eq0 : goal.returns-else-number-eq0
unfolding left_in
returns-else-number-eq0 c = search chain depth 12
