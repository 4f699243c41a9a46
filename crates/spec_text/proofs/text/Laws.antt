-- Laws of decimal numbers that this crate's proofs and its clients' cite.
use mathlib.Core.Path.{◌≡◌, refl, sym, ap, subst, ◌∙◌}
use mathlib.Core.Bool.{Bool, true, false, cond}
use mathlib.Core.List.{List, [], ◌∷◌}
use Prim.Native.Nat.{ℕ, zero, suc, ◌+◌, ◌*◌, ◌-◌, ◌≤◌, ◌<◌}
use native.Mathlib.Nat.{le_of_suc-le-suc, not-suc-le-zero, le_trans}
use native.Mathlib.Omega.{arith}
use native.Mathlib.Numerals.{add-one}
use borrow.Author.Tests.{lt-ltb, le-ltb, le-leb, lt-leb, eq-eqb, ne_eqb}
use lib.Dec.{leb}
use lib.ListN.{length, drop, get_or}
use Rattle.std.specs.Prelude.{Option, Some, None}
use Rattle.spec_base.proofs.base.Laws.{yes!, no! }
use Rattle.spec_text.specs.text.Number.{digit, digits, value_from, natural, unsigned, number}

pub value_more : (r : List ℕ) (v : ℕ) → v ≤ value_from v r
unfolding value_from
value_more [] v = omega arith
value_more (b ∷ r) v = le_trans (omega arith) (value_more r (v * 10 + (b - 0x30)))

pub natural_empty : (most : ℕ) (s : List ℕ) → length s ≡ 0 → None ≡ natural most s
unfolding natural
natural_empty most [] e = refl
natural_empty most (b ∷ r) e = absurd (omega arith)

pub natural_other : (most : ℕ) (s : List ℕ) → digits s ≡ false → None ≡ natural most s
unfolding natural
natural_other most [] e = refl
natural_other most (b ∷ r) e = no! _ e refl

pub natural_large : (most : ℕ) (s : List ℕ) → most < value_from 0 s → None ≡ natural most s
unfolding natural
natural_large most [] h = refl
natural_large most (b ∷ r) h = go (digits (b ∷ r))
  where
    go : (t : Bool) → None ≡ cond t (cond (leb (value_from 0 (b ∷ r)) most) (Some (value_from 0 (b ∷ r))) None) None
    go true = no! _ (lt-leb _ _ h) refl
    go false = refl

pub natural_value : (most v : ℕ) (s : List ℕ) → 0 < length s → digits s ≡ true → value_from 0 s ≡ v → v ≤ most → Some v ≡ natural most s
unfolding natural
natural_value most v [] l d e h = absurd (not-suc-le-zero l)
natural_value most v (b ∷ r) l d e h = yes! _ d (yes! _ (le-leb _ _ (subst (λ (n : ℕ). n ≤ most) (sym e) h)) (ap Some (sym e)))

pub digits_other : (s : List ℕ) (i : ℕ) → i < length s → digit (get_or s i 0) ≡ false → digits (drop i s) ≡ false
unfolding digits
digits_other [] i h e = absurd (not-suc-le-zero h)
digits_other (b ∷ s) zero h e = ap (λ (t : Bool). cond t (digits s) false) e
digits_other (b ∷ s) (suc i) h e = digits_other s i (le_of_suc-le-suc h) e

pub digits_more : (s : List ℕ) (i : ℕ) → i < length s → digit (get_or s i 0) ≡ true → digits (drop i s) ≡ digits (drop (suc i) s)
unfolding digits
digits_more [] i h e = absurd (not-suc-le-zero h)
digits_more (b ∷ s) zero h e = ap (λ (t : Bool). cond t (digits s) false) e
digits_more (b ∷ s) (suc i) h e = digits_more s i (le_of_suc-le-suc h) e

pub digits_end : (s : List ℕ) (i : ℕ) → length s ≤ i → digits (drop i s) ≡ true
unfolding digits
digits_end [] zero h = refl
digits_end [] (suc i) h = refl
digits_end (b ∷ s) zero h = absurd (not-suc-le-zero h)
digits_end (b ∷ s) (suc i) h = digits_end s i (le_of_suc-le-suc h)

pub value_step : (s : List ℕ) (i v : ℕ) → i < length s → value_from v (drop i s) ≡ value_from (v * 10 + (get_or s i 0 - 0x30)) (drop (suc i) s)
unfolding value_from
value_step [] i v h = absurd (not-suc-le-zero h)
value_step (b ∷ s) zero v h = refl
value_step (b ∷ s) (suc i) v h = value_step s i v (le_of_suc-le-suc h)

pub value_end : (s : List ℕ) (i v : ℕ) → length s ≤ i → value_from v (drop i s) ≡ v
unfolding value_from
value_end [] zero v h = refl
value_end [] (suc i) v h = refl
value_end (b ∷ s) zero v h = absurd (not-suc-le-zero h)
value_end (b ∷ s) (suc i) v h = value_end s i v (le_of_suc-le-suc h)

-- the steps of the loop over the digits
pub digit_low : (b : ℕ) → b < 0x30 → digit b ≡ false
unfolding digit
digit_low b h = sym (yes! _ (lt-ltb _ _ h) refl)

pub digit_high : (b : ℕ) → 0x39 < b → digit b ≡ false
unfolding digit
digit_high b h = sym (no! _ (le-ltb b 0x30 (omega arith)) (sym (lt-leb _ _ h)))

pub digit_some : (b : ℕ) → 0x30 ≤ b → b ≤ 0x39 → digit b ≡ true
unfolding digit
digit_some b l h = sym (no! _ (le-ltb b 0x30 l) (sym (le-leb _ _ h)))

pub digits_refused : (most : ℕ) (s : List ℕ) (i : ℕ) → digits s ≡ digits (drop i s) → i < length s → digit (get_or s i 0) ≡ false → None ≡ natural most s
digits_refused most s i inv l e = natural_other most s (inv ∙ digits_other s i l e)

pub value_refused : (most : ℕ) (s : List ℕ) (i v : ℕ) → value_from 0 s ≡ value_from v (drop i s) → i < length s → most < v * 10 + (get_or s i 0 - 0x30) → None ≡ natural most s
value_refused most s i v inv l h =
    natural_large most s
    (subst (λ (n : ℕ). most < n) (sym (inv ∙ value_step s i v l)) (le_trans h (value_more (drop (suc i) s) (v * 10 + (get_or s i 0 - 0x30)))))

pub digits_again : (s : List ℕ) (i : ℕ) → digits s ≡ digits (drop i s) → i < length s → digit (get_or s i 0) ≡ true → digits s ≡ digits (drop (i + 1) s)
digits_again s i inv l e = rw add-one (inv ∙ digits_more s i l e)

pub value_again : (s : List ℕ) (i v : ℕ) → value_from 0 s ≡ value_from v (drop i s) → i < length s → value_from 0 s ≡ value_from (v * 10 + (get_or s i 0 - 0x30)) (drop (i + 1) s)
value_again s i v inv l = rw add-one (inv ∙ value_step s i v l)

pub natural_passed : (most : ℕ) (s : List ℕ) (i v : ℕ) → (length s ≡ 0 → ⊥) → digits s ≡ digits (drop i s) → value_from 0 s ≡ value_from v (drop i s) → (v ≤ most) → length s ≤ i → Some v ≡ natural most s
natural_passed most s i v n d e f h = natural_value most v s (omega arith) (d ∙ digits_end s i h) (e ∙ value_end s i v h) f

pub unsigned_plus : (s : List ℕ) (b : ℕ) → b ≡ get_or s 0 0 → b ≡ 0x2B → drop 1 s ≡ unsigned s
unfolding unsigned
unsigned_plus [] b e h = refl
unsigned_plus (x ∷ r) b e h = yes! _ (eq-eqb x 0x2B (sym e ∙ h)) refl

pub unsigned_none : (s : List ℕ) (b : ℕ) → b ≡ get_or s 0 0 → (b ≡ 0x2B → ⊥) → s ≡ unsigned s
unfolding unsigned
unsigned_none [] b e h = refl
unsigned_none (x ∷ r) b e h = no! _ (ne_eqb x 0x2B (λ q. h (e ∙ q))) refl

pub number_plus : (most : ℕ) (s t : List ℕ) (b : ℕ) (r : Option ℕ) → b ≡ get_or s 0 0 → b ≡ 0x2B → t ≡ drop 1 s → r ≡ natural most t → r ≡ number most s
unfolding number
number_plus most s t b r e h d f = f ∙ ap (natural most) (d ∙ unsigned_plus s b e h)

pub number_none : (most : ℕ) (s : List ℕ) (b : ℕ) (r : Option ℕ) → b ≡ get_or s 0 0 → (b ≡ 0x2B → ⊥) → r ≡ natural most s → r ≡ number most s
unfolding number
number_none most s b r e h f = f ∙ ap (natural most) (unsigned_none s b e h)
