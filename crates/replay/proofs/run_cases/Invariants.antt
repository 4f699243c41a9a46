use Rattle.streams.specs.Left.{Drains, Grows}
use Rattle.replay.proofs.run_cases.Given as goal

abbrev pub invariant-loop-k : goal.invariant-loop-k
invariant-loop-k g l = Grows (g.W.Write.contents l.initial.to) (g.W.Write.contents l.to) × Drains (g.R.Read.remaining l.initial.from) (g.R.Read.remaining l.from)
