use Rattle.std.proofs.Common.{length}
use Rattle.streams.specs.Left.{Grows}
use Rattle.retime_cases.proofs.run_cases.Given as goal

abbrev pub invariant-loop-t : goal.invariant-loop-t
invariant-loop-t g l = Grows (g.W.Write.contents l.initial.to) (g.W.Write.contents l.to)

abbrev pub decreases-loop-t : goal.decreases-loop-t
decreases-loop-t g l = length l.t
