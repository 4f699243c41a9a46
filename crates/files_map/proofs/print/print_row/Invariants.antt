use Rattle.streams.specs.Left.{Grows}
use Rattle.files_map.proofs.print.print_row.Given as goal

abbrev pub invariant-loop-k : goal.invariant-loop-k
invariant-loop-k g l = Grows (g.W.Write.contents l.initial.to) (g.W.Write.contents l.to)
