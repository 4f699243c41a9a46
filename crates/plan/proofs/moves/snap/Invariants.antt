use Prim.Native.Nat.{◌*◌, ◌≤◌}
use mathlib.Core.Path.{◌≡◌}
use lib.ListN.{length}
use Rattle.spec_trim.proofs.plan.SnapLaws.{Snapping}
use Rattle.spec_trim.specs.plan.Snap.{floor_sync, ceil_sync}
use Rattle.plan.proofs.moves.snap.Given as goal

abbrev pub invariant-loop-i : goal.invariant-loop-i
invariant-loop-i l = (l.found.low.sync.0 ≡ floor_sync l.s l.n l.found.low.at.0) × (l.found.high.sync.0 ≡ ceil_sync l.s l.n l.found.high.at.0) × (l.i ≤ l.count) × (2 * l.i ≤ length l.ranges) × (length l.ranges ≡ length l.initial.ranges) × Snapping l.s l.n l.direction l.initial.ranges l.ranges l.count l.i
