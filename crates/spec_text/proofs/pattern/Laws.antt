-- Laws of a pattern that this crate's proofs and its clients' cite.
use mathlib.Core.Path.{◌≡◌, refl, sym, ap, ◌∙◌}
use mathlib.Core.Bool.{Bool, true, false, cond, true≢false}
use mathlib.Core.List.{List, [], ◌∷◌}
use Prim.Native.Nat.{ℕ, zero, suc, ◌+◌, ◌-◌, ◌≤◌, ◌<◌}
use native.Mathlib.Nat.{le_of_suc-le-suc, not-suc-le-zero}
use native.Mathlib.Omega.{arith}
use native.Mathlib.Numerals.{add-one}
use borrow.Author.Tests.{eq-eqb, ne_eqb, eqb-true}
use lib.Dec.{eqb, ltb}
use lib.Seq.{drop-nil, drop-drop, length-take-le}
use lib.ListN.{length, take, drop, get_or, length-drop}
use Rattle.spec_base.proofs.base.Laws.{no! }
use Rattle.spec_text.specs.pattern.Find.{starts, equals, first, contains, up_to, past}

-- ---- a pattern
pub starts_end : (p s : List ℕ) (i : ℕ) → length p ≤ i → true ≡ starts (drop i p) s
unfolding starts
starts_end [] s zero h = refl
starts_end [] s (suc i) h = refl
starts_end (a ∷ p) s zero h = absurd (not-suc-le-zero h)
starts_end (a ∷ p) s (suc i) h = starts_end p s i (le_of_suc-le-suc h)

pub starts_short : (p s : List ℕ) (i : ℕ) → i < length p → length s ≤ i → false ≡ starts (drop i p) (drop i s)
unfolding starts
starts_short [] s i h k = absurd (not-suc-le-zero h)
starts_short (a ∷ p) [] zero h k = refl
starts_short (a ∷ p) (b ∷ s) zero h k = absurd (not-suc-le-zero k)
starts_short (a ∷ p) [] (suc i) h k = starts_short p [] i (le_of_suc-le-suc h) (omega arith) ∙ ap (λ (l : List ℕ). starts (drop i p) l) (drop-nil i)
starts_short (a ∷ p) (b ∷ s) (suc i) h k = starts_short p s i (le_of_suc-le-suc h) (le_of_suc-le-suc k)

pub starts_other : (p s : List ℕ) (i : ℕ) → i < length p → i < length s → (get_or p i 0 ≡ get_or s i 0 → ⊥) → false ≡ starts (drop i p) (drop i s)
unfolding starts
starts_other [] s i h k n = absurd (not-suc-le-zero h)
starts_other (a ∷ p) [] i h k n = absurd (not-suc-le-zero k)
starts_other (a ∷ p) (b ∷ s) zero h k n = ap (λ (t : Bool). cond t (starts p s) false) (sym (ne_eqb a b n))
starts_other (a ∷ p) (b ∷ s) (suc i) h k n = starts_other p s i (le_of_suc-le-suc h) (le_of_suc-le-suc k) n

pub starts_same : (p s : List ℕ) (i : ℕ) → i < length p → i < length s → get_or p i 0 ≡ get_or s i 0 → starts (drop i p) (drop i s) ≡ starts (drop (suc i) p) (drop (suc i) s)
unfolding starts
starts_same [] s i h k e = absurd (not-suc-le-zero h)
starts_same (a ∷ p) [] i h k e = absurd (not-suc-le-zero k)
starts_same (a ∷ p) (b ∷ s) zero h k e = ap (λ (t : Bool). cond t (starts p s) false) (eq-eqb a b e)
starts_same (a ∷ p) (b ∷ s) (suc i) h k e = starts_same p s i (le_of_suc-le-suc h) (le_of_suc-le-suc k) e

-- p stands in s from i on, or its first byte is another
pub stands_none : (p s : List ℕ) (i : ℕ) → length p ≡ 0 → true ≡ starts p (drop i s)
unfolding starts
stands_none [] s i h = refl
stands_none (a ∷ p) s i h = absurd (omega arith)

pub stands_other : (p s : List ℕ) (i b : ℕ) → (length p ≡ 0 → ⊥) → b ≡ get_or s i 0 → (b ≡ get_or p 0 0 → ⊥) → false ≡ starts p (drop i s)
unfolding starts
stands_other [] s i b h e n = absurd (h refl)
stands_other (a ∷ p) [] i b h e n = ap (starts (a ∷ p)) (sym (drop-nil i))
stands_other (a ∷ p) (x ∷ s) zero b h e n = no! _ (ne_eqb a x (λ q. n (e ∙ sym q))) refl
stands_other (a ∷ p) (x ∷ s) (suc i) b h e n = stands_other (a ∷ p) s i b h e n

pub stands_asked : (p s t : List ℕ) (i : ℕ) (f : Bool) → t ≡ drop i s → f ≡ starts p t → f ≡ starts p (drop i s)
stands_asked p s t i f e q = q ∙ ap (starts p) e

-- p and s are the same
pub equals_starts : (p s : List ℕ) (f : Bool) → length s ≡ length p → f ≡ starts p s → f ≡ equals p s
unfolding equals starts
equals_starts [] [] f h e = e
equals_starts [] (b ∷ s) f h e = absurd (omega arith)
equals_starts (a ∷ p) [] f h e = e
equals_starts (a ∷ p) (b ∷ s) f h e = e ∙ ap (λ (t : Bool). cond (eqb a b) t false) (equals_starts p s (starts p s) (omega arith) refl)

pub equals_other : (p s : List ℕ) → (length s ≡ length p → ⊥) → false ≡ equals p s
unfolding equals
equals_other [] [] h = absurd (h refl)
equals_other [] (b ∷ s) h = refl
equals_other (a ∷ p) [] h = refl
equals_other (a ∷ p) (b ∷ s) h = go (eqb a b) (equals_other p s (λ q. h (ap suc q)))
  where
    go : (t : Bool) → false ≡ equals p s → false ≡ cond t (equals p s) false
    go true e = e
    go false e = refl

pub equals_true : (p s : List ℕ) → equals p s ≡ true → p ≡ s
unfolding equals
equals_true [] [] e = refl
equals_true [] (b ∷ s) e = absurd (true≢false (sym e))
equals_true (a ∷ p) [] e = absurd (true≢false (sym e))
equals_true (a ∷ p) (b ∷ s) e = go (eqb a b) refl e (equals_true p s)
  where
    go : (t : Bool) → eqb a b ≡ t → cond t (equals p s) false ≡ true → (equals p s ≡ true → p ≡ s) → ◌≡◌ {A = List ℕ} (a ∷ p) (b ∷ s)
    go true q f ih = ap (λ (x : ℕ). x ∷ p) (eqb-true a b q) ∙ ap (λ (l : List ℕ). b ∷ l) (ih f)
    go false q f ih = absurd (true≢false (sym f))

pub first_end : (p s : List ℕ) → length s ≤ 0 → 0 ≡ first p s
unfolding first
first_end p [] h = refl
first_end p (b ∷ s) h = absurd (not-suc-le-zero h)

pub first_hit : (p s : List ℕ) → starts p s ≡ true → 0 ≡ first p s
unfolding first
first_hit p [] e = refl
first_hit p (b ∷ s) e = ap (λ (t : Bool). cond t zero (suc (first p s))) (sym e)

pub first_miss : (p s : List ℕ) (i : ℕ) → i < length s → starts p (drop i s) ≡ false → first p (drop i s) ≡ suc (first p (drop (suc i) s))
unfolding first
first_miss p [] i h e = absurd (not-suc-le-zero h)
first_miss p (b ∷ s) zero h e = ap (λ (t : Bool). cond t zero (suc (first p s))) e
first_miss p (b ∷ s) (suc i) h e = first_miss p s i (le_of_suc-le-suc h) e

-- the steps of the two loops
pub starts_refused : (s p : List ℕ) (i : ℕ) → starts p s ≡ starts (drop i p) (drop i s) → i < length p → length s ≤ i → false ≡ starts p s
starts_refused s p i inv h k = starts_short p s i h k ∙ sym inv

pub starts_refused_2 : (s p : List ℕ) (i : ℕ) → starts p s ≡ starts (drop i p) (drop i s) → i < length p → i < length s → (get_or p i 0 ≡ get_or s i 0 → ⊥) → false ≡ starts p s
starts_refused_2 s p i inv h k n = starts_other p s i h k n ∙ sym inv

pub starts_again : (s p : List ℕ) (i : ℕ) → starts p s ≡ starts (drop i p) (drop i s) → i < length p → i < length s → get_or p i 0 ≡ get_or s i 0 → starts p s ≡ starts (drop (i + 1) p) (drop (i + 1) s)
starts_again s p i inv h k e = rw add-one (inv ∙ starts_same p s i h k e)

pub starts_passed : (s p : List ℕ) (i : ℕ) → starts p s ≡ starts (drop i p) (drop i s) → length p ≤ i → true ≡ starts p s
starts_passed s p i inv h = starts_end p (drop i s) i h ∙ sym inv

pub first_found : (s p : List ℕ) (i : ℕ) (f : Bool) → first p s ≡ i + first p (drop i s) → f ≡ starts p (drop i s) → f ≡ true → i ≡ first p s
first_found s p i f inv e h =
    let z : 0 ≡ first p (drop i s) = first_hit p (drop i s) (sym e ∙ h) in
    omega arith

pub first_again : (s p : List ℕ) (i : ℕ) (f : Bool) → first p s ≡ i + first p (drop i s) → i < length s → f ≡ starts p (drop i s) → f ≡ false → first p s ≡ i + 1 + first p (drop (i + 1) s)
first_again s p i f inv l e h =
    let z : first p (drop i s) ≡ suc (first p (drop (suc i) s)) = first_miss p s i l (sym e ∙ h) in
    rw add-one (omega arith)

pub first_none : (s p : List ℕ) (i : ℕ) → first p s ≡ i + first p (drop i s) → length s ≤ i → i ≡ first p s
first_none s p i inv h =
    let z : 0 ≡ first p (drop i s) = first_end p (drop i s) (simp length-drop (omega arith)) in
    omega arith

-- ---- the calls
pub has_found : (p s : List ℕ) (n : ℕ) → n ≡ first p s → ltb n (length s) ≡ contains p s
unfolding contains
has_found p s n e = ap (λ (m : ℕ). ltb m (length s)) e

pub front_found : (p s r : List ℕ) (n : ℕ) → n ≡ first p s → r ≡ take n s → r ≡ up_to p s
unfolding up_to
front_found p s r n e f = f ∙ ap (λ (m : ℕ). take m s) e

pub rest_found : (p s t r : List ℕ) (n : ℕ) → n ≡ first p s → t ≡ drop n s → r ≡ drop (length p) t → r ≡ past p s
unfolding past
rest_found p s t r n e f g = g ∙ ap (drop (length p)) (f ∙ ap (λ (m : ℕ). drop m s) e) ∙ drop-drop (length p) (first p s) s

-- a pattern, what is before and what is after it; p not empty: what is after it is empty where it is not there
pub up_past : (p s : List ℕ) → 0 < length (past p s) → length (up_to p s) + length p + length (past p s) ≡ length s
unfolding up_to past
up_past p s h =
    let a : length (drop (first p s + length p) s) ≡ length s - (first p s + length p) = length-drop (first p s + length p) s in
    let b : length (take (first p s) s) ≡ first p s = length-take-le (first p s) s (omega arith) in
    omega arith
