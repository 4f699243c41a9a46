use Rattle.streams.specs.Left.{Drains}
use Rattle.replay.proofs.input.skip.Given as goal

abbrev pub invariant-loop : goal.invariant-loop
invariant-loop g l = Drains (g.R.Read.remaining l.initial.from) (g.R.Read.remaining l.from)
