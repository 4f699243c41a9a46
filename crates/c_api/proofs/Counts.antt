-- The counts, told of an equal answer.
use mathlib.Core.Path.{◌≡◌, ap, ◌∙◌}
use Prim.Native.Nat.{ℕ}
use Rattle.spec_base.specs.base.Refusal.{left_in}
use Rattle.spec_ask.specs.declared.ask_census.StartCounts.{StartCounts}

module _ (w x : StartCounts) (e : w ≡ x) where
  pub count_number : w.number ≡ x.number
  count_number = ap (λ (y : StartCounts). y.number) e

  pub shifted_left : (n v : ℕ) → v ≡ left_in w.number w.shifted n → v ≡ left_in w.number x.shifted n
  shifted_left n v q = q ∙ ap (λ (y : StartCounts). left_in w.number y.shifted n) e

  pub clipped_left : (n v : ℕ) → v ≡ left_in w.number w.clipped n → v ≡ left_in w.number x.clipped n
  clipped_left n v q = q ∙ ap (λ (y : StartCounts). left_in w.number y.clipped n) e

  pub dropped_left : (n v : ℕ) → v ≡ left_in w.number w.dropped n → v ≡ left_in w.number x.dropped n
  dropped_left n v q = q ∙ ap (λ (y : StartCounts). left_in w.number y.dropped n) e
