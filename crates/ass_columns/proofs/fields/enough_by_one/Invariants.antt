use Prim.Native.Nat.{◌+◌, ◌-◌, ◌≤◌}
use lib.Dec.{leb}
use lib.ListN.{length}
use mathlib.Core.Path.{◌≡◌}
use Rattle.spec_ass.specs.ass_columns.Columns.{fields}
use Rattle.ass_columns.proofs.fields.enough_by_one.Given as goal

abbrev pub invariant-loop : goal.invariant-loop
invariant-loop l = (leb (l.columns + 1 - l.counter) (length (fields (l.columns + 1 - l.counter) l.t)) ≡ leb l.columns (length (fields l.columns l.s))) × (length l.t ≤ length l.s)
