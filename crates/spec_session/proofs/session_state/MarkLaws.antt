-- The outcome, and how many LFs are held.
use mathlib.Core.Path.{◌≡◌, refl, sym, ap, ◌∙◌}
use mathlib.Core.Bool.{Bool, true, false, ◌||◌, not, cond}
use mathlib.Core.List.{List, [], ◌∷◌}
use Prim.Native.Nat.{ℕ, suc, ◌+◌, ◌≤◌, ◌<◌}
use native.Mathlib.Numerals.{add-one}
use native.Mathlib.Omega.{arith}
use lib.Dec.{eqb, leb}
use lib.ListN.{length, drop, get_or, drop_of_length-le}
use lib.Seq.{drop-cons}
use borrow.Author.Tests.{ne_eqb, lt-leb, le-leb}
use Rattle.spec_text.specs.text.Line.{line_count}
use Rattle.spec_machine.specs.session_counts.Cut.{before, push, is_lf, closed_lines, cut}
use Rattle.spec_machine.specs.session_counts.Session.{is_outcome, outcome_bad}

-- ---- the outcome
pub outcome_none : (k : ℕ) → k ≡ 0 → true ≡ is_outcome k
unfolding is_outcome
outcome_none k e = rw e

pub outcome_first : (k : ℕ) → k ≡ 24 → true ≡ is_outcome k
unfolding is_outcome
outcome_first k e = rw e

pub outcome_low : (k : ℕ) → (k ≡ 0 → ⊥) → (k ≡ 24 → ⊥) → k < 19 → false ≡ is_outcome k
unfolding is_outcome
outcome_low k a b h = rw (ne_eqb k 0 a, ne_eqb k 24 b, lt-leb 19 k h)

pub or_none : (t : Bool) → t ≡ (t || false)
or_none true = refl
or_none false = refl

pub outcome_high : (k : ℕ) → (k ≡ 0 → ⊥) → (k ≡ 24 → ⊥) → 19 ≤ k → leb k 22 ≡ is_outcome k
unfolding is_outcome
outcome_high k a b h = rw (ne_eqb k 0 a, ne_eqb k 24 b, le-leb 19 k h) (or_none (leb k 22))

pub bad_ended : (e a : Bool) (k : ℕ) → a ≡ is_outcome k → a ≡ true → e ≡ true → false ≡ outcome_bad e k
unfolding outcome_bad
bad_ended e a k f p q = let z : is_outcome k ≡ true = sym f ∙ p in rw (z, q)

pub bad_live : (e a : Bool) (k : ℕ) → a ≡ is_outcome k → a ≡ true → e ≡ false → not (eqb k 0) ≡ outcome_bad e k
unfolding outcome_bad
bad_live e a k f p q = let z : is_outcome k ≡ true = sym f ∙ p in rw (z, q)

pub bad_other : (e a : Bool) (k : ℕ) → a ≡ is_outcome k → a ≡ false → true ≡ outcome_bad e k
unfolding outcome_bad
bad_other e a k f p = let z : is_outcome k ≡ false = sym f ∙ p in rw z

-- ---- LFs
abbrev pub lfs : List ℕ → ℕ
lfs l = line_count (closed_lines l)

same_count : (b : ℕ) (ls : List (List ℕ)) (r : List ℕ) → line_count (before (b ∷ []) ls r).pieces ≡ line_count ls
same_count b [] r = refl
same_count b (l ∷ ls) r = refl

lf_cons : (b : ℕ) (t : List ℕ) → lfs (b ∷ t) ≡ cond (eqb b 10) 1 0 + lfs t
lf_cons b t = go (eqb b 10)
  where
    go : (x : Bool) → line_count (push x b (cut is_lf t)).pieces ≡ cond x 1 0 + lfs t
    go true = omega arith
    go false = same_count b (cut is_lf t).pieces (cut is_lf t).rest ∙ omega arith

pub lf_again : (s : List ℕ) (i n x : ℕ) → n + lfs (drop i s) ≡ lfs s → i < length s → x ≡ cond (eqb (get_or s i 0) 10) 1 0 → n + x + lfs (drop (i + 1) s) ≡ lfs s
lf_again s i n x e h f =
    let g : lfs (drop i s) ≡ cond (eqb (get_or s i 0) 10) 1 0 + lfs (drop (suc i) s) = ap lfs (drop-cons s i 0 h) ∙ lf_cons (get_or s i 0) (drop (suc i) s) in
    let k : lfs (drop (i + 1) s) ≡ lfs (drop (suc i) s) = ap (λ (j : ℕ). lfs (drop j s)) (add-one i) in
    omega arith

pub lf_all : (s : List ℕ) (i n : ℕ) → n + lfs (drop i s) ≡ lfs s → length s ≤ i → n ≡ lfs s
lf_all s i n e h = let g : lfs (drop i s) ≡ 0 = ap lfs (drop_of_length-le s h) in omega arith

pub one_small : (b x : ℕ) → x ≡ cond (eqb b 10) 1 0 → x ≤ 1
one_small b x e = go (eqb b 10) e
  where
    go : (t : Bool) → x ≡ cond t 1 0 → x ≤ 1
    go true e = omega arith
    go false e = omega arith
