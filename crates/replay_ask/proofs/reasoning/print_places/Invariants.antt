use Rattle.streams.specs.Left.{Grows}
use Rattle.replay_ask.proofs.reasoning.print_places.Given as goal

abbrev pub invariant-loop-n : goal.invariant-loop-n
invariant-loop-n g l = Grows (g.W.Write.contents l.initial.to) (g.W.Write.contents l.to)
