use Rattle.std.proofs.Common.{◌≡◌, ◌*◌, ◌≤◌, take, length}
use Rattle.spec_trim.proofs.plan.PairLaws.{left_of}
use Rattle.spec_map.specs.segmap.Build.{ranges_fault}
use Rattle.segmap.proofs.faults.ranges_fault.Given as goal

abbrev pub invariant-loop-start : goal.invariant-loop-start
invariant-loop-start l = (2 * l.start-index ≤ length l.ranges) × (ranges_fault l.s l.n (left_of l.ranges l.count l.start-index) ≡ ranges_fault l.s l.n (take (2 * l.count) l.ranges))
