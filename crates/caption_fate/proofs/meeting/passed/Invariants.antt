use lib.ListN.{length}
use Rattle.caption_fate.proofs.PassLaws.{Passing}
use Rattle.caption_fate.proofs.meeting.passed.Given as goal

abbrev pub invariant-loop-t : goal.invariant-loop-t
invariant-loop-t l = Passing l.map l.a l.k l.t

abbrev pub decreases-loop-t : goal.decreases-loop-t
decreases-loop-t l = length l.t
