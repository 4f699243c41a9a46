-- Laws of `pieces`: the first piece, the pieces of what stands after it, and all of them joined.
use mathlib.Core.Path.{◌≡◌, refl, sym, ap, subst, ◌∙◌}
use mathlib.Core.Bool.{Bool, true, false, cond, true≢false}
use mathlib.Core.List.{List, [], ◌∷◌, ◌++◌}
use Prim.Native.Nat.{ℕ, zero, suc, ◌+◌, ◌-◌, ◌≤◌, ◌<◌}
use native.Mathlib.Nat.{not-suc-le-zero, le_of_suc-le-suc}
use native.Mathlib.Omega.{arith}
use borrow.Author.Tests.{ltb-true, ltb-false, eqb-true}
use lib.Dec.{ltb, eqb}
use lib.ListN.{length, take, drop}
use lib.Seq.{take_all, drop-nil}
use Rattle.spec_text.specs.pattern.Find.{starts, first}
use Rattle.spec_text.specs.pattern.Piece.{onto_first}
use Rattle.spec_text.specs.pattern.Piece.{pieces_from, pieces}

skip_pieces : (p s : List ℕ) (k : ℕ) → pieces_from p s k ≡ pieces_from p (drop k s) 0
unfolding pieces_from
skip_pieces p [] zero = refl
skip_pieces p [] (suc k) = refl
skip_pieces p (b ∷ s) zero = refl
skip_pieces p (b ∷ s) (suc k) = skip_pieces p s k

-- p stands nowhere in s
pub pieces_none : (p s : List ℕ) → length s ≤ first p s → pieces p s ≡ s ∷ []
unfolding pieces pieces_from first
pieces_none p [] h = refl
pieces_none p (b ∷ s) h = go (starts p (b ∷ s)) h (pieces_none p s)
  where
    go : (t : Bool) → suc (length s) ≤ cond t zero (suc (first p s)) → (length s ≤ first p s → pieces_from p s 0 ≡ s ∷ [])
        → cond t ([] ∷ pieces_from p s (length p - 1)) (onto_first b (pieces_from p s 0)) ≡ (b ∷ s) ∷ []
    go true l ih = absurd (not-suc-le-zero l)
    go false l ih = ap (onto_first b) (ih (le_of_suc-le-suc l))

-- p stands in s: its first place parts it
pub pieces_some : (p s : List ℕ) → 0 < length p → first p s < length s → pieces p s ≡ take (first p s) s ∷ pieces p (drop (first p s + length p) s)
unfolding pieces pieces_from first
pieces_some p [] n h = absurd (not-suc-le-zero h)
pieces_some p (b ∷ s) n h = go (starts p (b ∷ s)) h (pieces_some p s n)
  where
    go : (t : Bool) → cond t zero (suc (first p s)) < suc (length s) → (first p s < length s → pieces_from p s 0 ≡ take (first p s) s ∷ pieces_from p (drop (first p s + length p) s) 0)
        → cond t ([] ∷ pieces_from p s (length p - 1)) (onto_first b (pieces_from p s 0))
        ≡ take (cond t zero (suc (first p s))) (b ∷ s) ∷ pieces_from p (drop (cond t zero (suc (first p s)) + length p) (b ∷ s)) 0
    go true l ih =
        let q : 0 + length p ≡ suc (length p - 1) = omega arith in
        ap (λ (r : List (List ℕ)). [] ∷ r) (skip_pieces p s (length p - 1) ∙ ap (λ (k : ℕ). pieces_from p (drop k (b ∷ s)) 0) (sym q))
    go false l ih =
        let q : suc (first p s) + length p ≡ suc (first p s + length p) = omega arith in
        ap (onto_first b) (ih (le_of_suc-le-suc l)) ∙ ap (λ (k : ℕ). (b ∷ take (first p s) s) ∷ pieces_from p (drop k (b ∷ s)) 0) (sym q)

-- the first piece ends at k, the first place of p; where that is the end, it is the only one
pub pieces_head : (p s : List ℕ) (k : ℕ) → 0 < length p → k ≡ first p s → pieces p s ≡ take k s ∷ cond (ltb k (length s)) (pieces p (drop (k + length p) s)) []
pieces_head p s k n e = go (ltb k (length s)) refl
  where
    go : (t : Bool) → ltb k (length s) ≡ t → pieces p s ≡ take k s ∷ cond t (pieces p (drop (k + length p) s)) []
    go true q =
        subst (λ (j : ℕ). pieces p s ≡ take j s ∷ pieces p (drop (j + length p) s)) (sym e) (pieces_some p s n (subst (λ (j : ℕ). j < length s) e (ltb-true k (length s) q)))
    go false q =
        let l : length s ≤ k = ltb-false k (length s) q in
        pieces_none p s (subst (λ (j : ℕ). length s ≤ j) e l) ∙ ap (λ (x : List ℕ). x ∷ []) (sym (take_all k s l))

-- there is always one
pub pieces_one : (p s : List ℕ) → 0 < length (pieces p s)
unfolding pieces pieces_from
pieces_one p [] = omega arith
pieces_one p (b ∷ s) = go (starts p (b ∷ s)) (pieces_from p s 0)
  where
    go : (t : Bool) (l : List (List ℕ)) → 0 < length (cond t ([] ∷ pieces_from p s (length p - 1)) (onto_first b l))
    go true l = omega arith
    go false [] = omega arith
    go false (x ∷ l) = omega arith

-- ---- the pieces with p between them are s
unfoldable pub joined : List ℕ → List (List ℕ) → List ℕ
joined p [] = []
joined p (f ∷ []) = f
joined p (f ∷ g ∷ fs) = f ++ (p ++ joined p (g ∷ fs))

joined_onto : (p : List ℕ) (b : ℕ) (l : List (List ℕ)) → joined p (onto_first b l) ≡ b ∷ joined p l
unfolding joined
joined_onto p b [] = refl
joined_onto p b (f ∷ []) = refl
joined_onto p b (f ∷ g ∷ fs) = refl

joined_next : (p : List ℕ) (l : List (List ℕ)) → 0 < length l → joined p ([] ∷ l) ≡ p ++ joined p l
unfolding joined
joined_next p [] h = absurd (omega arith)
joined_next p (g ∷ fs) h = refl

pub starts_cut : (p s : List ℕ) → starts p s ≡ true → s ≡ p ++ drop (length p) s
unfolding starts
starts_cut [] s e = refl
starts_cut (a ∷ p) [] e = absurd (true≢false (sym e))
starts_cut (a ∷ p) (b ∷ s) e = go (eqb a b) refl e (starts_cut p s)
  where
    go : (t : Bool) → eqb a b ≡ t → cond t (starts p s) false ≡ true → (starts p s ≡ true → s ≡ p ++ drop (length p) s) → b ∷ s ≡ a ∷ (p ++ drop (length p) s)
    go true q f ih = ap (λ (l : List ℕ). b ∷ l) (ih f) ∙ ap (λ (x : ℕ). x ∷ (p ++ drop (length p) s)) (sym (eqb-true a b q))
    go false q f ih = absurd (true≢false (sym f))

joined_from : (p : List ℕ) → 0 < length p → (s : List ℕ) (k : ℕ) → joined p (pieces_from p s k) ≡ drop k s
unfolding pieces_from pieces joined
joined_from p n [] k = sym (drop-nil k)
joined_from p n (b ∷ s) (suc k) = joined_from p n s k
joined_from p n (b ∷ s) zero = go (starts p (b ∷ s)) refl (joined_from p n s)
  where
    go : (t : Bool) → starts p (b ∷ s) ≡ t → ((k : ℕ) → joined p (pieces_from p s k) ≡ drop k s)
        → joined p (cond t ([] ∷ pieces_from p s (length p - 1)) (onto_first b (pieces_from p s 0))) ≡ b ∷ s
    go true q ih =
        let l : 0 < length (pieces_from p s (length p - 1)) = subst (λ (x : List (List ℕ)). 0 < length x) (sym (skip_pieces p s (length p - 1))) (pieces_one p (drop (length p - 1) s)) in
        let m : length p ≡ suc (length p - 1) = omega arith in
        joined_next p (pieces_from p s (length p - 1)) l ∙ ap (λ (x : List ℕ). p ++ x) (ih (length p - 1)) ∙ sym (starts_cut p (b ∷ s) q ∙ ap (λ (j : ℕ). p ++ drop j (b ∷ s)) m)
    go false q ih = joined_onto p b (pieces_from p s 0) ∙ ap (λ (x : List ℕ). b ∷ x) (ih 0)

pub pieces_joined : (p s : List ℕ) → 0 < length p → joined p (pieces p s) ≡ s
unfolding pieces
pieces_joined p s n = joined_from p n s 0

pub starts_long : (p s : List ℕ) → starts p s ≡ true → length p ≤ length s
unfolding starts
starts_long [] s e = omega arith
starts_long (a ∷ p) [] e = absurd (true≢false (sym e))
starts_long (a ∷ p) (b ∷ s) e = go (eqb a b) e (starts_long p s)
  where
    go : (t : Bool) → cond t (starts p s) false ≡ true → (starts p s ≡ true → length p ≤ length s) → suc (length p) ≤ suc (length s)
    go true e ih = let z = ih e in omega arith
    go false e ih = absurd (true≢false (sym e))
