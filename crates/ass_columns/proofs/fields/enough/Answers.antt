use mathlib.Core.Path.{ap, ◌∙◌}
use Prim.Native.Nat.{ℕ, ◌-◌}
use Rattle.ass_columns.proofs.CommaLaws.{counted_some, counted_again, counted_rest}
use Rattle.ass_columns.proofs.fields.enough.Goals as goal

pub returns-then-left-le1 : goal.returns-then-left-le1
returns-then-left-le1 c = search counted_some

pub loop-chunk-preserved : goal.loop-chunk-preserved
loop-chunk-preserved c = counted_again _ _ _ _ c.loop-chunk.invariant _ _ _ c.in-Some.ensures.cases.0 c.in-Some.ensures.cases.1 (c.saturating_sub-left.ensures ∙ ap (λ (n : ℕ). c.loop-chunk.left - n) (c.from.ensures ∙ c.commas_in.ensures))

pub returns : goal.returns
returns c = search counted_rest
