use Prim.Native.Nat.{◌+◌}
use mathlib.Core.Path.{◌≡◌}
use lib.ListN.{drop}
use Rattle.spec_json.specs.json.Num.{digit_run}
use Rattle.json_values.proofs.number.digit_run.Given as goal

abbrev pub invariant-loop-i : goal.invariant-loop-i
invariant-loop-i l = digit_run l.s ≡ l.i + digit_run (drop l.i l.s)
