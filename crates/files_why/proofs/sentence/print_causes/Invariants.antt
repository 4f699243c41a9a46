use Rattle.streams.specs.Left.{Grows}
use Rattle.files_why.proofs.sentence.print_causes.Given as goal

abbrev pub invariant-loop-i : goal.invariant-loop-i
invariant-loop-i g l = Grows (g.W.Write.contents l.initial.to) (g.W.Write.contents l.to)
