use mathlib.Core.Path.{◌≡◌}
use lib.Dec.{leb}
use lib.ListN.{length}
use Rattle.spec_ass.specs.ass_columns.Columns.{fields}
use Rattle.ass_columns.proofs.fields.enough.Given as goal

abbrev pub invariant-loop-chunk : goal.invariant-loop-chunk
invariant-loop-chunk l = leb l.left (length (fields l.left l.t)) ≡ leb l.columns (length (fields l.columns l.s))

abbrev pub decreases-loop-chunk : goal.decreases-loop-chunk
decreases-loop-chunk l = length l.t
