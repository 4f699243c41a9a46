use native.Mathlib.Omega.{arith}
use Rattle.spec_base.proofs.base.PutLaws.{at_past, at_back, placed_room}
use Rattle.base.proofs.write.put_at.Goals as goal

pub returns-then-out-at : goal.returns-then-out-at
returns-then-out-at g c = at_past _ _ _ c.if-out-at.true

pub overflow_add-result : goal.overflow_add-result
overflow_add-result g c = let e = c.put.ensures.0 in omega (arith, placed_room _ _ _ e)

pub returns : goal.returns
returns g c = let e = c.put.ensures in at_back _ _ _ _ _ c.if-out-at.false e.0 e.1
