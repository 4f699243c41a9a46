use Prim.Native.Nat.{◌+◌}
use mathlib.Core.Path.{◌≡◌}
use lib.ListN.{drop}
use Rattle.spec_json.specs.json.Space.{spaces}
use Rattle.json_values.proofs.space.spaces.Given as goal

abbrev pub invariant-loop-i : goal.invariant-loop-i
invariant-loop-i l = spaces l.s ≡ l.i + spaces (drop l.i l.s)
