-- What std's `starts_with` and `==` say of two lists is what `starts` and `equals` say.
use Prim.Native.Nat.{ℕ, suc, ◌+◌, ◌-◌, ◌≤◌, ◌<◌}
use mathlib.Core.Path.{◌≡◌, refl, sym, ap, ◌∙◌}
use mathlib.Core.Bool.{Bool, true, false, cond, ◌&&◌}
use mathlib.Core.List.{List, [], ◌∷◌}
use lib.Dec.{eqb}
use lib.ListN.{length, take, drop, get_or, length-drop}
use lib.Seq.{take_all, drop-cons}
use lib.Pointwise.{pointwise}
use native.Mathlib.Omega.{arith}
use native.Mathlib.Numerals.{add-one}
use borrow.Author.Tests.{eq-eqb, ne_eqb}
use Rattle.spec_text.specs.pattern.Find.{starts, equals, first}
use Rattle.spec_text.proofs.pattern.Laws.{first_none, stands_other}

both : (t u v : Bool) → u ≡ v → (t && u) ≡ cond t v false
both true u v e = e
both false u v e = refl

pub starts_pointwise : (p s : List ℕ) → pointwise eqb p (take (length p) s) ≡ starts p s
unfolding starts
starts_pointwise [] s = refl
starts_pointwise (a ∷ p) [] = refl
starts_pointwise (a ∷ p) (b ∷ s) = both (eqb a b) _ _ (starts_pointwise p s)

pub equals_pointwise : (p s : List ℕ) → pointwise eqb p s ≡ equals p s
unfolding equals
equals_pointwise [] [] = refl
equals_pointwise [] (b ∷ s) = refl
equals_pointwise (a ∷ p) [] = refl
equals_pointwise (a ∷ p) (b ∷ s) = both (eqb a b) _ _ (equals_pointwise p s)

-- `p`, not empty, stands in `s` from `i` on, or its first byte is another
pub stands_differs : (p s : List ℕ) (i : ℕ) → 1 ≤ length p → (get_or s i 0 ≡ get_or p 0 0 → ⊥) → eqb (get_or s i 0) (get_or p 0 0) ≡ starts p (drop i s)
stands_differs p s i l n = ne_eqb _ _ n ∙ stands_other p s i _ (λ z. omega arith) refl n

pub stands_rest : (p s : List ℕ) (i : ℕ) (r : Bool) → i < length s → 1 ≤ length p → get_or s i 0 ≡ get_or p 0 0
    → r ≡ pointwise eqb (take (length p - 1) (drop 1 p)) (take (length (take (length p - 1) (drop 1 p))) (take (length s - (i + 1)) (drop (i + 1) s))) → r ≡ starts p (drop i s)
unfolding starts
stands_rest [] s i r h l e q = absurd (omega arith)
stands_rest (a ∷ p) s i r h l e q =
    let t : take (length s - (i + 1)) (drop (i + 1) s) ≡ drop (suc i) s = rw add-one (take_all _ (drop (suc i) s) (omega (arith, length-drop (suc i) s))) in
    let u : take (length (a ∷ p) - 1) (drop 1 (a ∷ p)) ≡ p = take_all _ p (omega arith) in
    let v : r ≡ starts p (drop (suc i) s) = q ∙ starts_pointwise (take (length (a ∷ p) - 1) (drop 1 (a ∷ p))) (take (length s - (i + 1)) (drop (i + 1) s)) ∙ ap (λ (x : List ℕ). starts x (take (length s - (i + 1)) (drop (i + 1) s))) u ∙ ap (starts p) t in
    v ∙ rw (drop-cons s i 0 h, eq-eqb a (get_or s i 0) (sym e))

-- the loop is over: p stands nowhere
pub first_whole : (s p : List ℕ) (i : ℕ) → first p s ≡ i + first p (drop i s) → i ≤ length s → length s ≤ i → length s ≡ first p s
first_whole s p i inv l h = let e : length s ≡ i = omega arith in e ∙ first_none s p i inv h
