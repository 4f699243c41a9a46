use Rattle.std.proofs.Common.{◌≡◌, ◌*◌, ◌≤◌, length, take}
use Rattle.spec_map.specs.segment.Segment.{segments_of}
use Rattle.spec_records.specs.map_records.Records.{recorded, narrowed}
use Rattle.map_records.proofs.building.fill.Given as goal

abbrev pub invariant-loop-i : goal.invariant-loop-i
invariant-loop-i l = (l.i ≤ l.count) × (length l.map ≡ length l.initial.map) × (l.map ≡ recorded (take l.i (narrowed (segments_of (take (6 * l.count) l.flat)))) l.initial.map)
