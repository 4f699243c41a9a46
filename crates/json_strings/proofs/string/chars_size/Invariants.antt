use Prim.Native.Nat.{◌≤◌, ◌+◌}
use mathlib.Core.Path.{◌≡◌}
use lib.ListN.{length}
use Rattle.spec_json.specs.json.Str.{chars_bytes}
use Rattle.json_strings.proofs.string.chars_size.Given as goal

abbrev pub invariant-loop-w : goal.invariant-loop-w
invariant-loop-w l = (l.n + length l.t ≤ length l.s) × (length (chars_bytes l.s 0) ≡ l.n + length (chars_bytes l.t 0))

abbrev pub decreases-loop-w : goal.decreases-loop-w
decreases-loop-w l = length l.t
