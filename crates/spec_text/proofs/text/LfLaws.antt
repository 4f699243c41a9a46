-- Texts without LF, and lines that end in one.
use mathlib.Core.Path.{◌≡◌, refl, sym, ap, ◌∙◌}
use mathlib.Core.Logic.{◌⊎◌, inl, inr}
use mathlib.Core.Bool.{Bool, true, false, cond, true≢false}
use mathlib.Core.List.{List, [], ◌∷◌, ◌++◌}
use Prim.Native.Nat.{ℕ, zero, suc, ◌-◌, ◌<◌}
use native.Mathlib.Omega.{arith}
use borrow.Author.Tests.{eq-eqb, eqb-true}
use lib.Dec.{eqb}
use lib.ListN.{length, take, drop, get_or}
use Rattle.spec_text.specs.text.Line.{terminator_length, text_of, is_empty, ends_line, has_lf}
use Rattle.spec_text.proofs.text.LineEnds.{last_of}

-- ---- texts without LF
pub lf_append : (xs ys : List ℕ) → has_lf xs ≡ false → has_lf (xs ++ ys) ≡ has_lf ys
unfolding has_lf
lf_append [] ys h = refl
lf_append (b ∷ xs) ys h = go (eqb b 10) h (lf_append xs ys)
  where
    go : (t : Bool) → cond t true (has_lf xs) ≡ false → (has_lf xs ≡ false → has_lf (xs ++ ys) ≡ has_lf ys) → cond t true (has_lf (xs ++ ys)) ≡ has_lf ys
    go true q ih = absurd (true≢false q)
    go false q ih = ih q

pub ends_append : (xs ys : List ℕ) → has_lf xs ≡ false → ends_line (xs ++ ys) ≡ ends_line ys
unfolding has_lf ends_line
ends_append [] ys h = refl
ends_append (b ∷ xs) ys h = go (eqb b 10) h (ends_append xs ys)
  where
    go : (t : Bool) → cond t true (has_lf xs) ≡ false → (has_lf xs ≡ false → ends_line (xs ++ ys) ≡ ends_line ys) → cond t (is_empty (xs ++ ys)) (ends_line (xs ++ ys)) ≡ ends_line ys
    go true q ih = absurd (true≢false q)
    go false q ih = ih q

lf_rest : (t : Bool) (xs : List ℕ) → cond t true (has_lf xs) ≡ false → has_lf xs ≡ false
lf_rest true xs q = absurd (true≢false q)
lf_rest false xs q = q

pub lf_drop : (k : ℕ) (xs : List ℕ) → has_lf xs ≡ false → has_lf (drop k xs) ≡ false
unfolding has_lf
lf_drop zero xs h = h
lf_drop (suc k) [] h = h
lf_drop (suc k) (b ∷ xs) h = lf_drop k xs (lf_rest (eqb b 10) xs h)

pub lf_get : (xs : List ℕ) (k : ℕ) → has_lf xs ≡ false → get_or xs k 0 ≡ 10 → ⊥
unfolding has_lf
lf_get [] k h e = omega arith
lf_get (b ∷ xs) zero h e = true≢false (sym (ap (λ (t : Bool). cond t true (has_lf xs)) (eq-eqb b 10 e)) ∙ h)
lf_get (b ∷ xs) (suc k) h e = lf_get xs k (lf_rest (eqb b 10) xs h) e

-- a line that ends in LF: no LF before its last byte, which is one
ends_take : (l : List ℕ) (k : ℕ) → ends_line l ≡ true → k < length l → has_lf (take k l) ≡ false
unfolding has_lf ends_line
ends_take [] k h i = absurd (omega arith)
ends_take (b ∷ l) zero h i = refl
ends_take (b ∷ l) (suc k) h i = go (eqb b 10) l h i (ends_take l k)
  where
    go : (t : Bool) (l : List ℕ) → cond t (is_empty l) (ends_line l) ≡ true → suc k < suc (length l) → (ends_line l ≡ true → k < length l → has_lf (take k l) ≡ false) → cond t true (has_lf (take k l)) ≡ false
    go true [] q j ih = absurd (omega arith)
    go true (c ∷ l) q j ih = absurd (true≢false (sym q))
    go false l q j ih = ih q (omega arith)

pub ends_last : (l : List ℕ) → ends_line l ≡ true → (0 < length l) × (last_of l ≡ 10)
unfolding ends_line
ends_last [] h = absurd (true≢false (sym h))
ends_last (b ∷ l) h = (omega arith, go (eqb b 10) refl l h (ends_last l))
  where
    go : (t : Bool) → eqb b 10 ≡ t → (l : List ℕ) → cond t (is_empty l) (ends_line l) ≡ true → (ends_line l ≡ true → (0 < length l) × (last_of l ≡ 10)) → last_of (b ∷ l) ≡ 10
    go true e [] q ih = eqb-true b 10 e
    go true e (c ∷ l) q ih = absurd (true≢false (sym q))
    go false e [] q ih = absurd (true≢false (sym q))
    go false e (c ∷ l) q ih =
        let p : suc (suc (length l)) - 1 ≡ suc (suc (length l) - 1) = omega arith in
        ap (λ (i : ℕ). get_or (b ∷ c ∷ l) i 0) p ∙ (ih q).1

-- ---- a line that ends in LF, or has none: its text has none
lf_take : (k : ℕ) (xs : List ℕ) → has_lf xs ≡ false → has_lf (take k xs) ≡ false
unfolding has_lf
lf_take zero xs h = refl
lf_take (suc k) [] h = refl
lf_take (suc k) (b ∷ xs) h = go (eqb b 10) h (lf_take k xs)
  where
    go : (t : Bool) → cond t true (has_lf xs) ≡ false → (has_lf xs ≡ false → has_lf (take k xs) ≡ false) → cond t true (has_lf (take k xs)) ≡ false
    go true q ih = absurd (true≢false q)
    go false q ih = ih q

shorter : (l : List ℕ) → last_of l ≡ 10 → 0 < terminator_length l
unfolding terminator_length
shorter l h = rw (eq-eqb (last_of l) 10 h) (go (eqb (get_or l (length l - 2) 0) 13))
  where
    go : (t : Bool) → 0 < cond t 2 1
    go true = omega arith
    go false = omega arith

pub text_lf : (l : List ℕ) → (ends_line l ≡ true) ⊎ (has_lf l ≡ false) → has_lf (text_of l) ≡ false
unfolding text_of
text_lf l (inl h) =
    let p = ends_last l h in
    ends_take l (length l - terminator_length l) h (omega (arith, shorter l p.1))
text_lf l (inr h) = lf_take (length l - terminator_length l) l h
