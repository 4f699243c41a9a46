-- A delay's numbers, told of an equal answer: what is left where it is refused, and where it is not.
use mathlib.Core.Path.{◌≡◌, sym, ap, ◌∙◌}
use mathlib.Core.Bool.{cond}
use Prim.Native.Nat.{ℕ}
use lib.Dec.{eqb}
use lib.IntN.{ℤ}
use borrow.Author.Tests.{ne_eqb}
use Rattle.spec_base.specs.base.Refusal.{left_in}
use Rattle.spec_ask.specs.declared.ask_delay.Delay.{Delay}

module _ (w x : Delay) (e : w ≡ x) where
  pub shift_number : w.number ≡ x.number
  shift_number = ap (λ (y : Delay). y.number) e

  module _ (z : w.number ≡ 0 → ⊥) where
    pub stays : (v n : ℕ) → n ≡ left_in w.number v n
    unfolding left_in
    stays v n = rw (ne_eqb w.number 0 z)

    pub delay_stays : (v n : ℤ) → n ≡ cond (eqb w.number 0) v n
    delay_stays v n = rw (ne_eqb w.number 0 z)

  pub none_refused : w.number ≡ 0 → 0 ≡ x.number
  none_refused z = sym z ∙ shift_number

  pub loss_told : (n : ℕ) → w.loss ≡ left_in 0 x.loss n
  unfolding left_in
  loss_told n = ap (λ (y : Delay). y.loss) e

  pub tried_told : (n : ℕ) → w.tried ≡ left_in 0 x.tried n
  unfolding left_in
  tried_told n = ap (λ (y : Delay). y.tried) e

  pub off_told : (n : ℕ) → w.off ≡ left_in 0 x.off n
  unfolding left_in
  off_told n = ap (λ (y : Delay). y.off) e
