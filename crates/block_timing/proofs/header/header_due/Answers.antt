use mathlib.Core.Path.{◌≡◌, ◌∙◌}
use mathlib.Core.Logic.{◌⊎◌, inl, inr}
use Prim.Native.Nat.{ℕ}
use borrow.Author.Tests.{ne_eqb}
use Rattle.spec_cue.proofs.block_timing.VttLaws.{due_kind, due_lines, due_bytes}
use Rattle.block_timing.proofs.header.header_due.Goals as goal
use Rattle.block_timing.proofs.header.header_due.Goals.{then-kind-eq2, else-kind-eq2}

some_lines : (k n : ℕ) → ((k ≡ 2) × (n ≡ 0 → ⊥)) ⊎ (k ≡ 2 → ⊥) → k ≡ 2 → n ≡ 0 → ⊥
some_lines k n (inl p) e = p.1
some_lines k n (inr q) e = absurd (q e)

pub returns-then-n-eq0 : goal.returns-then-n-eq0
returns-then-n-eq0 c = c.is_empty.ensures ∙ due_bytes _ _ _ c.if-n-eq0.true.0 c.if-n-eq0.true.1

pub returns-else-n-eq0 : goal.returns-else-n-eq0
returns-else-n-eq0 c = elim c.if-kind-eq2.branch [
  | then-kind-eq2 w ↦ (let n = some_lines _ _ c.if-n-eq0.either w.if-kind-eq2.true in w.t-5-is ∙ ne_eqb _ 0 n ∙ due_lines _ _ _ w.if-kind-eq2.true n)
  | else-kind-eq2 w ↦ w.t-5-is ∙ ne_eqb _ 2 w.if-kind-eq2.false ∙ due_kind _ _ _ w.if-kind-eq2.false
]
