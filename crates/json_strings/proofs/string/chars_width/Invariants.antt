use Prim.Native.Nat.{◌≤◌, ◌-◌}
use mathlib.Core.Path.{◌≡◌}
use lib.ListN.{length, drop}
use Rattle.spec_json.specs.json.Space.{joined}
use Rattle.spec_json.specs.json.Str.{chars_width}
use Rattle.json_strings.proofs.string.chars_width.Given as goal

abbrev pub invariant-loop-w : goal.invariant-loop-w
invariant-loop-w l = (l.at ≤ length l.s) × (chars_width l.s 0 ≡ joined l.at (chars_width (drop l.at l.s) 0))

abbrev pub decreases-loop-w : goal.decreases-loop-w
decreases-loop-w l = length l.s - l.at
