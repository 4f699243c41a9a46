use Rattle.spec_base.proofs.base.PutLaws.{at_past, at_back, placed_room}
use native.Mathlib.Omega.{arith}
use Rattle.caption_stamp.proofs.write.write_time_at.Goals as goal

pub returns-then-out-at : goal.returns-then-out-at
returns-then-out-at c = at_past _ _ _ c.if-out-at.true

pub overflow_add-result : goal.overflow_add-result
overflow_add-result c = let e = c.write_time.ensures.0 in omega (arith, placed_room _ _ _ e)

pub returns : goal.returns
returns c = let e = c.write_time.ensures in at_back _ _ _ _ _ c.if-out-at.false e.0 e.1
