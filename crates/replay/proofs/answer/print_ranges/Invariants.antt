use Rattle.streams.specs.Left.{Grows}
use Rattle.replay.proofs.answer.print_ranges.Given as goal

abbrev pub invariant-loop-range : goal.invariant-loop-range
invariant-loop-range g l = Grows (g.W.Write.contents l.initial.to) (g.W.Write.contents l.to)
