use mathlib.Core.Path.{◌≡◌}
use Prim.Native.Nat.{◌-◌, ◌≤◌}
use lib.ListN.{length, drop}
use Rattle.spec_json.specs.json.Space.{joined}
use Rattle.spec_json.specs.json.Walk.{row_of}
use Rattle.map_json_segments.specs.Slots.{no_slots, slots_from}
use Rattle.map_json_segments.specs.Fields.{members_in}
use Rattle.map_json_segments.proofs.number.slots_in.Given as goal

abbrev pub invariant-loop-at : goal.invariant-loop-at
invariant-loop-at l = (l.at ≤ length l.s) × (row_of 8 0x7B l.s ≡ joined l.at (row_of 8 0x7B (drop l.at l.s))) × (slots_from l.x (members_in 8 (drop l.at l.s)) ≡ slots_from no_slots (members_in 8 l.s))

abbrev pub decreases-loop-at : goal.decreases-loop-at
decreases-loop-at l = length l.s - l.at
