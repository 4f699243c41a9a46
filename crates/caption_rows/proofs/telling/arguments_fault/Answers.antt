use mathlib.Core.Path.{refl, sym, ◌∙◌}
use mathlib.Core.Bool.{true≢false}
use borrow.Author.Tests.{ltb-true, ltb-false}
use Rattle.spec_base.proofs.base.Refusals.{stops_bad, goes_bad, stops_over, goes_under, last_over, last_under}
use Rattle.caption_rows.proofs.telling.arguments_fault.Goals as goal
use Rattle.caption_rows.proofs.telling.arguments_fault.Goals.{then-kind_bad, else-kind_bad, then-text, else-text}

pub returns-then-lent-lt2 : goal.returns-then-lent-lt2
returns-then-lent-lt2 c = elim c.if-text.branch [
  | then-text w ↦ elim c.if-kind_bad.branch [
    | then-kind_bad v ↦ stops_bad 16 _ refl c.kind_bad.ensures v.if-kind_bad.true
    | else-kind_bad v ↦ goes_bad 16 _ _ c.kind_bad.ensures v.if-kind_bad.false (stops_over _ _ 16 _ refl (ltb-true _ _ (sym v.value-is ∙ w.if-text.true)))
  ]
  | else-text w ↦ elim c.if-kind_bad.branch [
    | then-kind_bad v ↦ stops_bad 16 _ refl c.kind_bad.ensures v.if-kind_bad.true
    | else-kind_bad v ↦ goes_bad 16 _ _ c.kind_bad.ensures v.if-kind_bad.false (goes_under _ _ 16 _ _ (ltb-false _ _ (sym v.value-is ∙ w.if-text.false)) (last_over 2 _ 16 (ltb-true _ _ (sym w.value-is ∙ c.if-lent-lt2.true))))
  ]
]

pub returns-else-lent-lt2 : goal.returns-else-lent-lt2
returns-else-lent-lt2 c = elim c.if-text.branch [
  | then-text w ↦ absurd (true≢false (sym w.if-text.true ∙ sym w.value-is ∙ c.if-lent-lt2.false))
  | else-text w ↦ elim c.if-kind_bad.branch [
    | then-kind_bad v ↦ absurd (true≢false (sym v.if-kind_bad.true ∙ sym v.value-is ∙ w.if-text.false))
    | else-kind_bad v ↦ goes_bad 16 _ _ c.kind_bad.ensures v.if-kind_bad.false (goes_under _ _ 16 _ _ (ltb-false _ _ (sym v.value-is ∙ w.if-text.false)) (last_under 2 _ 16 (ltb-false _ _ (sym w.value-is ∙ c.if-lent-lt2.false))))
  ]
]
