use native.Mathlib.Omega.{arith}
use lib.ListN.{length-set}
use Rattle.spec_session.proofs.session.StandLaws.{moved_more, moved_rest}
use Rattle.session.proofs.running.move_down.Goals as goal

pub loop-i-preserved : goal.loop-i-preserved
loop-i-preserved c = let A = c.args in let v = c.loop-i.invariant in let h = c.loop-i.held in let i = c.loop-i.i in (moved_more A.held.now h A.s A.k A.n i (omega arith) (omega arith) v.2 v.0 v.1, moved_rest A.held.now h A.s A.k i _ v.1, rw length-set v.2)
