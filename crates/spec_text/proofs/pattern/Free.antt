-- Texts in which a byte does not stand: a pattern that begins with it is found only after them.
use Prim.Native.Nat.{ℕ, ◌+◌}
use mathlib.Core.Path.{◌≡◌, refl, ap, sym, ◌∙◌}
use mathlib.Core.Bool.{false}
use mathlib.Core.List.{List, [], ◌∷◌, ◌++◌, append-nil}
use lib.ListN.{length, take, drop}
use native.Mathlib.Nat.{zero-add, suc-add}
use native.Mathlib.Omega.{arith}
use borrow.Author.Tests.{ne_eqb, eq-eqb, le-ltb}
use Rattle.spec_text.specs.pattern.Find.{starts, first, contains, up_to, past}

abbrev pub Free : ℕ → List ℕ → Type 0
Free c [] = Unit
Free c (b ∷ s) = (c ≡ b → ⊥) × Free c s

pub free_append : (c : ℕ) (s t : List ℕ) → Free c s → Free c t → Free c (s ++ t)
free_append c [] t f g = g
free_append c (b ∷ s) t f g = (f.0, free_append c s t f.1 g)

take_sum : (s t : List ℕ) (n : ℕ) → take (length s + n) (s ++ t) ≡ s ++ take n t
take_sum [] t n = ap (λ (m : ℕ). take m t) (zero-add n)
take_sum (b ∷ s) t n = ap (λ (m : ℕ). take m (b ∷ (s ++ t))) (suc-add (length s) n) ∙ ap (λ (x : List ℕ). b ∷ x) (take_sum s t n)

drop_sum : (s t : List ℕ) (n : ℕ) → drop (length s + n) (s ++ t) ≡ drop n t
drop_sum [] t n = ap (λ (m : ℕ). drop m t) (zero-add n)
drop_sum (b ∷ s) t n = ap (λ (m : ℕ). drop m (b ∷ (s ++ t))) (suc-add (length s) n) ∙ drop_sum s t n

module _ (c : ℕ) (p : List ℕ) where
  pub first_free : (s t : List ℕ) → Free c s → first (c ∷ p) (s ++ t) ≡ length s + first (c ∷ p) t
  unfolding first starts
  first_free [] t f = sym (zero-add _)
  first_free (b ∷ s) t f = rw (ne_eqb c b f.0) (omega (arith, first_free s t f.1))

  pub up_free : (s t : List ℕ) → Free c s → up_to (c ∷ p) (s ++ t) ≡ s ++ up_to (c ∷ p) t
  unfolding up_to
  up_free s t f = ap (λ (n : ℕ). take n (s ++ t)) (first_free s t f) ∙ take_sum s t (first (c ∷ p) t)

  pub past_free : (s t : List ℕ) → Free c s → past (c ∷ p) (s ++ t) ≡ past (c ∷ p) t
  unfolding past
  past_free s t f =
      let e : first (c ∷ p) (s ++ t) + length (c ∷ p) ≡ length s + (first (c ∷ p) t + length (c ∷ p)) = omega (arith, first_free s t f) in
      ap (λ (n : ℕ). drop n (s ++ t)) e ∙ drop_sum s t (first (c ∷ p) t + length (c ∷ p))

  -- it is not found in them
  pub none_free : (s : List ℕ) → Free c s → contains (c ∷ p) s ≡ false
  unfolding contains first
  none_free s f =
      let e : first (c ∷ p) (s ++ []) ≡ length s + 0 = first_free s [] f in
      le-ltb (first (c ∷ p) s) (length s) (omega (arith, ap (first (c ∷ p)) (append-nil s)))

-- the parts about the byte itself
pub first_one : (c : ℕ) (t : List ℕ) → first (c ∷ []) (c ∷ t) ≡ 0
unfolding first starts
first_one c t = rw (eq-eqb c c refl)

up_one : (c : ℕ) (t : List ℕ) → up_to (c ∷ []) (c ∷ t) ≡ []
unfolding up_to
up_one c t = rw (first_one c t)

past_one : (c : ℕ) (t : List ℕ) → past (c ∷ []) (c ∷ t) ≡ t
unfolding past
past_one c t = rw (first_one c t)

module _ (c : ℕ) (s t : List ℕ) (f : Free c s) where
  pub up_byte : up_to (c ∷ []) (s ++ c ∷ t) ≡ s
  up_byte = up_free c [] s (c ∷ t) f ∙ ap (λ (x : List ℕ). s ++ x) (up_one c t) ∙ append-nil s

  pub past_byte : past (c ∷ []) (s ++ c ∷ t) ≡ t
  past_byte = past_free c [] s (c ∷ t) f ∙ past_one c t
