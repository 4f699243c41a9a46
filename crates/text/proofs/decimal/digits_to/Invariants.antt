use Prim.Native.Nat.{◌≤◌}
use mathlib.Core.Path.{◌≡◌}
use lib.ListN.{drop}
use Rattle.spec_text.specs.text.Number.{digits, value_from}
use Rattle.text.proofs.decimal.digits_to.Given as goal

abbrev pub invariant-loop-b : goal.invariant-loop-b
invariant-loop-b l = (digits l.s ≡ digits (drop l.b-index l.s)) × (value_from 0 l.s ≡ value_from l.v (drop l.b-index l.s)) × (l.v ≤ l.most)
