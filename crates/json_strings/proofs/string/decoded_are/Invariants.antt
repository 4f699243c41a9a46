use mathlib.Core.Path.{◌≡◌}
use lib.ListN.{length}
use Rattle.spec_text.specs.pattern.Find.{equals}
use Rattle.spec_json.specs.json.Str.{chars_bytes}
use Rattle.json_strings.proofs.string.decoded_are.Given as goal

abbrev pub invariant-loop-w : goal.invariant-loop-w
invariant-loop-w l = equals l.name (chars_bytes l.s 0) ≡ equals l.v (chars_bytes l.t 0)

abbrev pub decreases-loop-w : goal.decreases-loop-w
decreases-loop-w l = length l.t
