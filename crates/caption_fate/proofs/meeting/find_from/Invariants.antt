use lib.ListN.{length}
use Rattle.spec_caption.proofs.caption_fate.GroupedLaws.{Seeking}
use Rattle.caption_fate.proofs.meeting.find_from.Given as goal

abbrev pub invariant-loop-t : goal.invariant-loop-t
invariant-loop-t l = Seeking l.map l.groups l.from l.a l.b l.place l.t

abbrev pub decreases-loop-t : goal.decreases-loop-t
decreases-loop-t l = length l.t
