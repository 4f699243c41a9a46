use Rattle.streams.specs.Left.{Grows}
use Rattle.files_map.proofs.print.print_rows.Given as goal

abbrev pub invariant-loop-row : goal.invariant-loop-row
invariant-loop-row g l = Grows (g.W.Write.contents l.initial.to) (g.W.Write.contents l.to)
