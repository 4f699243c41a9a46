use mathlib.Core.Path.{◌≡◌}
use Rattle.spec_trim.specs.plan.Snap.{ceil_sync}
use Rattle.plan.proofs.scan.ceil_from.Given as goal

abbrev pub invariant-loop-k : goal.invariant-loop-k
invariant-loop-k l = ceil_sync l.s l.n l.k ≡ ceil_sync l.s l.n l.fn.x.0
