-- Laws of the tag search: by position outside, by tag inside.
use mathlib.Core.Path.{◌≡◌, refl, sym, ap, ◌∙◌}
use mathlib.Core.Bool.{Bool, true, false, cond}
use mathlib.Core.List.{List, [], ◌∷◌}
use Prim.Native.Nat.{ℕ, zero, suc, ◌+◌, ◌≤◌, ◌<◌}
use native.Mathlib.Omega.{arith}
use native.Mathlib.Numerals.{add-one}
use borrow.Author.Tests.{lt-ltb, le-ltb, ltb-true, ltb-false}
use lib.Dec.{ltb}
use lib.ListN.{length, drop, get_or, drop_of_length-le}
use lib.Seq.{drop-cons}
use Rattle.spec_text.specs.pattern.Find.{starts, first, contains}
use Rattle.spec_ass.specs.ass_write.Tags.{tags, holds_any, tagged}

-- s begins with one of ts
abbrev pub starts_any : List (List ℕ) → List ℕ → Bool
starts_any [] s = false
starts_any (t ∷ ts) s = cond (starts t s) true (starts_any ts s)

ltb_suc : (a b : ℕ) → ltb (suc a) (suc b) ≡ ltb a b
ltb_suc a b = go (ltb a b) refl
  where
    go : (t : Bool) → ltb a b ≡ t → ltb (suc a) (suc b) ≡ t
    go true e = lt-ltb (suc a) (suc b) (omega (arith, ltb-true a b e))
    go false e = le-ltb (suc a) (suc b) (omega (arith, ltb-false a b e))

contains_cons : (t : List ℕ) (x : ℕ) (xs : List ℕ) → contains t (x ∷ xs) ≡ cond (starts t (x ∷ xs)) true (contains t xs)
unfolding contains first
contains_cons t x xs = go (starts t (x ∷ xs))
  where
    go : (b : Bool) → ltb (cond b zero (suc (first t xs))) (suc (length xs)) ≡ cond b true (ltb (first t xs) (length xs))
    go true = lt-ltb 0 (suc (length xs)) (omega arith)
    go false = ltb_suc (first t xs) (length xs)

swap : (a w p q : Bool) → cond (cond a true w) true (cond p true q) ≡ cond (cond a true p) true (cond w true q)
swap true w p q = refl
swap false true true q = refl
swap false true false q = refl
swap false false p q = refl

any_cons : (ts : List (List ℕ)) (x : ℕ) (xs : List ℕ) → holds_any ts (x ∷ xs) ≡ cond (starts_any ts (x ∷ xs)) true (holds_any ts xs)
unfolding holds_any
any_cons [] x xs = refl
any_cons (t ∷ ts) x xs =
    rw (any_cons ts x xs, contains_cons t x xs) (swap (starts t (x ∷ xs)) (contains t xs) (starts_any ts (x ∷ xs)) (holds_any ts xs))

any_nil : (ts : List (List ℕ)) → holds_any ts [] ≡ false
unfolding holds_any contains first
any_nil [] = refl
any_nil (t ∷ ts) = any_nil ts

any_starts : (ts : List (List ℕ)) (k : ℕ) (u : List ℕ) → k < length ts → starts (get_or ts k []) u ≡ true → starts_any ts u ≡ true
any_starts [] k u l h = absurd (omega arith)
any_starts (t ∷ ts) zero u l h = rw h
any_starts (t ∷ ts) (suc k) u l h = rw (any_starts ts k u (omega arith) h) (go (starts t u))
  where
    go : (b : Bool) → cond b true true ≡ true
    go true = refl
    go false = refl

-- the two loops: what is left is the whole answer
module _ (s : List ℕ) (i : ℕ) (inv : tagged (drop i s) ≡ tagged s) (hi : i < length s) where
  here : drop i s ≡ get_or s i 0 ∷ drop (suc i) s
  here = drop-cons s i 0 hi

  -- tag k stands at the position i
  pub tag_found : (k : ℕ) (u : List ℕ) (f : Bool) → k < 5 → u ≡ drop i s → f ≡ starts (get_or tags k []) u → f ≡ true → true ≡ tagged s
  tag_found k u f l eu ef h =
      let a : starts_any tags (drop i s) ≡ true = any_starts tags k (drop i s) l (ap (starts (get_or tags k [])) (sym eu) ∙ sym ef ∙ h) in
      let b : starts_any tags (get_or s i 0 ∷ drop (suc i) s) ≡ true = ap (starts_any tags) (sym here) ∙ a in
      sym
      (sym inv ∙ ap tagged here ∙ any_cons tags (get_or s i 0) (drop (suc i) s) ∙ ap (λ (t : Bool). cond t true (tagged (drop (suc i) s))) b)

  -- none does
  pub tag_again : (k : ℕ) → starts_any (drop k tags) (drop i s) ≡ starts_any tags (drop i s) → 5 ≤ k → tagged (drop (i + 1) s) ≡ tagged s
  tag_again k e h =
      let a : starts_any tags (drop i s) ≡ false = sym e ∙ ap (λ (ts : List (List ℕ)). starts_any ts (drop i s)) (drop_of_length-le tags {i = k} h) in
      let b : starts_any tags (get_or s i 0 ∷ drop (suc i) s) ≡ false = ap (starts_any tags) (sym here) ∙ a in
      rw add-one
      (sym (ap tagged here ∙ any_cons tags (get_or s i 0) (drop (suc i) s) ∙ ap (λ (t : Bool). cond t true (tagged (drop (suc i) s))) b) ∙ inv)

-- tag k does not stand there
pub tag_miss : (k : ℕ) (v u : List ℕ) (f : Bool) → starts_any (drop k tags) v ≡ starts_any tags v → k < 5 → u ≡ v → f ≡ starts (get_or tags k []) u → f ≡ false
    → starts_any (drop (k + 1) tags) v ≡ starts_any tags v
tag_miss k v u f inv l eu ef h =
    let n : starts (get_or tags k []) v ≡ false = ap (starts (get_or tags k [])) (sym eu) ∙ sym ef ∙ h in
    let d : drop k tags ≡ get_or tags k [] ∷ drop (suc k) tags = drop-cons tags k [] l in
    rw add-one
    (sym (ap (λ (ts : List (List ℕ)). starts_any ts v) d ∙ ap (λ (t : Bool). cond t true (starts_any (drop (suc k) tags) v)) n) ∙ inv)

pub tag_none : (s : List ℕ) (i : ℕ) (hit : Bool) → tagged (drop i s) ≡ tagged s → length s ≤ i → hit ≡ false → hit ≡ tagged s
tag_none s i hit inv h e = e ∙ sym (ap tagged (drop_of_length-le s h) ∙ any_nil tags) ∙ inv
