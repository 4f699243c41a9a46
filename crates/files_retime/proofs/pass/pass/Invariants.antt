use Rattle.files_retime.proofs.PassLaws.{Onward}
use Rattle.streams.specs.Left.{Drains, Grows}
use Rattle.files_retime.proofs.pass.pass.Given as goal

abbrev pub invariant-loop : goal.invariant-loop
invariant-loop g l = (Onward l.initial.at l.map l.at) × Grows (g.W.Write.contents l.initial.to) (g.W.Write.contents l.to) × Drains (g.R.Read.remaining l.initial.from) (g.R.Read.remaining l.from)
