use mathlib.Core.Path.{◌≡◌}
use Prim.Native.Nat.{◌*◌, ◌≤◌}
use lib.ListN.{length}
use Rattle.spec_base.specs.base.Limits.{most_ticks, most_segments}
use Rattle.spec_trim.proofs.plan.PairLaws.{left_of}
use Rattle.spec_map.specs.segmap.Build.{ranges_fault}
use Rattle.segmap.specs.Milestones.{Carried}
use Rattle.spec_map.proofs.segmap.BuildLaws.{Building, Adding}
use Rattle.segmap.proofs.building.build.Given as goal

abbrev pub invariant-loop-i : goal.invariant-loop-i
invariant-loop-i l = (l.i ≤ l.count) × (length l.map ≡ length l.initial.map) × (l.count ≤ most_segments) × (2 * l.count ≤ length l.ranges) × (6 * l.count ≤ length l.initial.map) × Carried l.s l.from.decode.0 l.from.ticks l.milestones × (l.output ≤ most_ticks * l.i) × Adding l.s l.ranges l.count l.i l.output × (ranges_fault l.s l.n (left_of l.ranges l.count l.i) ≡ 0) × Building l.s l.ranges l.count l.initial.map l.map l.i l.output
