-- An answer's numbers, told of an equal answer.
use mathlib.Core.Path.{◌≡◌, ap, ◌∙◌}
use Prim.Native.Nat.{ℕ}
use Rattle.spec_ask.specs.declared.ask_reason.Why.{Why}
use Rattle.spec_base.specs.base.Refusal.{left_in}
use Rattle.spec_ask.specs.ask_reason.Reason.{fate_code}

module _ (w x : Why) (e : w ≡ x) where
  pub number_left : w.number ≡ x.number
  number_left = ap (λ (y : Why). y.number) e

  pub fate_left : (t n v : ℕ) → t ≡ fate_code w.fate → v ≡ left_in w.number t n → v ≡ left_in w.number (fate_code x.fate) n
  fate_left t n v p q = q ∙ ap (λ (y : ℕ). left_in w.number y n) (p ∙ ap (λ (y : Why). fate_code y.fate) e)

  pub place_left : (n v : ℕ) → v ≡ left_in w.number w.place n → v ≡ left_in w.number x.place n
  place_left n v q = q ∙ ap (λ (y : Why). left_in w.number y.place n) e

  pub start_left : (n v : ℕ) → v ≡ left_in w.number w.start_cut n → v ≡ left_in w.number x.start_cut n
  start_left n v q = q ∙ ap (λ (y : Why). left_in w.number y.start_cut n) e

  pub end_left : (n v : ℕ) → v ≡ left_in w.number w.end_cut n → v ≡ left_in w.number x.end_cut n
  end_left n v q = q ∙ ap (λ (y : Why). left_in w.number y.end_cut n) e
