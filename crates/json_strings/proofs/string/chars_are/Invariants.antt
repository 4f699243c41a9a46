use mathlib.Core.Path.{◌≡◌}
use lib.ListN.{drop}
use Rattle.spec_text.specs.pattern.Find.{equals}
use Rattle.spec_json.specs.json.Str.{chars_bytes}
use Rattle.json_strings.proofs.string.chars_are.Given as goal

abbrev pub invariant-loop-i : goal.invariant-loop-i
invariant-loop-i l = equals l.name (chars_bytes l.s 0) ≡ equals (drop l.i l.name) (chars_bytes (drop l.i l.s) 0)
