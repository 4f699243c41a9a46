use Rattle.std.proofs.Common.{◌≡◌, ◌*◌, ◌≤◌, length, take}
use Rattle.spec_base.specs.base.Put.{put}
use Rattle.spec_map.specs.segment.Segment.{flat_of}
use Rattle.map_records.proofs.flattening.flatten.Given as goal

abbrev pub invariant-loop-i : goal.invariant-loop-i
invariant-loop-i l = (l.i ≤ length l.map) × (length l.flat ≡ length l.initial.flat) × (6 * length l.map ≤ length l.initial.flat) × (l.flat ≡ put (flat_of (take l.i l.map)) l.initial.flat)
