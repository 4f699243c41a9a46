use Prim.Native.Nat.{◌+◌, ◌-◌, ◌≤◌}
use mathlib.Core.Path.{◌≡◌}
use lib.ListN.{length}
use Rattle.spec_ass.specs.ass_columns.Columns.{fields, field_at}
use Rattle.ass_columns.proofs.fields.field.Given as goal

abbrev pub invariant-loop : goal.invariant-loop
invariant-loop l = (field_at (l.place + 1 - l.counter) (fields (l.columns + 1 - l.counter) l.t) ≡ field_at l.place (fields l.columns l.s)) × (length l.t ≤ length l.s)
