use mathlib.Core.Path.{◌≡◌}
use Prim.Native.Nat.{◌-◌, ◌≤◌}
use lib.ListN.{length, drop}
use Rattle.spec_json.specs.json.Space.{joined}
use Rattle.spec_json.specs.json.Walk.{row_of}
use Rattle.map_json_segments.specs.Slots.{gathered}
use Rattle.map_json_read.specs.Slots.{none_walked, walked_after}
use Rattle.map_json_segments.specs.Fields.{members_in}
use Rattle.map_json_read.specs.Walk.{walked_of}
use Rattle.map_json_read.proofs.walk.walk_in.Given as goal

abbrev pub invariant-loop-at : goal.invariant-loop-at
invariant-loop-at l = (l.at ≤ length l.s) × (row_of 10 0x7B l.s ≡ joined l.at (row_of 10 0x7B (drop l.at l.s))) × (gathered walked_after (walked_of l.s l.x) (members_in 10 (drop l.at l.s)) ≡ gathered walked_after none_walked (members_in 10 l.s))

abbrev pub decreases-loop-at : goal.decreases-loop-at
decreases-loop-at l = length l.s - l.at
