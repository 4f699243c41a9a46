use Rattle.std.proofs.Common.{length, drop, ◌-◌, ◌≡◌, ◌+◌, ◌*◌, ◌≤◌}
use Rattle.spec_json.specs.json.Space.{joined}
use Rattle.spec_json.specs.json.Walk.{close_of, row_of}
use Rattle.json_values.proofs.value.+item_parts_row_width_value_width.Given as goal

abbrev pub decreases-item_parts : goal.decreases-item_parts
decreases-item_parts l = 3 * l.depth + 1

abbrev pub decreases-row_width : goal.decreases-row_width
decreases-row_width l = 3 * l.depth + 2

abbrev pub decreases-value_width : goal.decreases-value_width
decreases-value_width l = 3 * l.depth

abbrev pub invariant-row_width-loop-at : goal.invariant-row_width-loop-at
invariant-row_width-loop-at l = (l.at ≤ length l.s) × (l.close ≡ close_of l.opener) × (row_of l.depth l.opener l.s ≡ joined l.at (row_of l.depth l.opener (drop l.at l.s)))

abbrev pub decreases-row_width-loop-at : goal.decreases-row_width-loop-at
decreases-row_width-loop-at l = length l.s - l.at
