use Rattle.std.proofs.Common.{◌≡◌, ◌*◌, ◌≤◌, take, length}
use Rattle.spec_trim.specs.plan.Snap.{overlaps_fault}
use Rattle.spec_trim.proofs.plan.PairLaws.{left_of}
use Rattle.plan.proofs.crossing.overlap.Given as goal

abbrev pub invariant-loop-start : goal.invariant-loop-start
invariant-loop-start l = (2 * l.start-index ≤ length l.ranges) × (overlaps_fault l.prev (left_of l.ranges l.count l.start-index) ≡ overlaps_fault 0 (take (2 * l.count) l.ranges))
