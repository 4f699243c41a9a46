use mathlib.Core.Path.{◌≡◌}
use Prim.Native.Nat.{◌≤◌}
use Rattle.spec_trim.specs.plan.Snap.{last_below}
use Rattle.plan.proofs.scan.floor_from.Given as goal

abbrev pub invariant-loop-k : goal.invariant-loop-k
invariant-loop-k l = (l.low ≤ l.k) × (last_below l.s l.k ≡ last_below l.s l.initial.k)
