-- The two rules for lost parts held against each other: how they can differ; and over a map whose segments of positive length ascend in the source
-- without overlap, where document 01's says that a part was lost request 2.7's does too.
use mathlib.Core.Path.{◌≡◌, refl, sym, ap, subst, ◌∙◌}
use mathlib.Core.Logic.{◌⊎◌, inl, inr}
use mathlib.Core.Bool.{Bool, true, false, cond, ◌&&◌, true≢false}
use mathlib.Core.List.{List, [], ◌∷◌, ◌++◌, append_assoc}
use Prim.Native.Nat.{ℕ, suc, ◌≤◌, ◌<◌}
use native.Mathlib.Omega.{arith}
use borrow.Author.Tests.{lt-ltb, ltb-true, ltb-false}
use lib.Dec.{ltb}
use Rattle.spec_base.proofs.base.Laws.{and_left, and_right, and_false}
use Rattle.spec_map.specs.declared.segment.Segment.{Segment}
use Rattle.spec_map.specs.segment.Segment.{source_of, source_end}
use Rattle.spec_caption.specs.caption_fate.Hit.{meets_parts, meets, Found, miss, hit, find_from, find_hit}
use Rattle.spec_caption.specs.caption_fate.Lost.{lost_next, lost_later}
use Rattle.spec_caption.specs.caption_fate.Warns.{Apart}
use Rattle.spec_caption.proofs.caption_fate.HitLaws.{meets_long, meets_later}

-- ---- clauses
pub later_none : (a b : ℕ) → lost_later [] a b ≡ false
unfolding lost_later
later_none a b = refl

pub later_here : (x : Segment) (xs : List Segment) (a b : ℕ) → meets x a b ≡ true → lost_later (x ∷ xs) a b ≡ true
unfolding lost_later
later_here x xs a b e = rw e

pub later_on : (x : Segment) (xs : List Segment) (a b : ℕ) → meets x a b ≡ false → lost_later (x ∷ xs) a b ≡ lost_later xs a b
unfolding lost_later
later_on x xs a b e = rw e

-- the nearest by document 01's rule
long_next : (x : Segment) (b : ℕ) → (ltb 0 x.duration && ltb (source_of x) b) ≡ true → (0 < x.duration) × (source_of x < b)
long_next x b e =
    (ltb-true 0 x.duration (and_left (ltb 0 x.duration) (ltb (source_of x) b) e), ltb-true (source_of x) b (and_right (ltb 0 x.duration) (ltb (source_of x) b) e))

-- ---- the ways in which the rules differ, of the nearest segment x and those behind it; where there is none, neither says that a part was lost
-- by document 01's alone: the nearest ends at or before the start
pub next_alone : (x : Segment) (xs : List Segment) (a b : ℕ) → lost_next (x ∷ xs) a b ≡ true → lost_later (x ∷ xs) a b ≡ false → source_end x ≤ a
unfolding meets_parts
next_alone x xs a b p q = go (ltb a (source_end x)) refl
  where
    go : (t : Bool) → ltb a (source_end x) ≡ t → source_end x ≤ a
    go false e = ltb-false a (source_end x) e
    go true e =
        let k = long_next x b p in
        absurd (true≢false (sym (later_here x xs a b (rw (lt-ltb 0 x.duration k.0, e, lt-ltb (source_of x) b k.1))) ∙ q))

-- by request 2.7's alone: the nearest has no length, or starts at or after the end; and one behind it is met
pub later_alone : (x : Segment) (xs : List Segment) (a b : ℕ) → lost_next (x ∷ xs) a b ≡ false → lost_later (x ∷ xs) a b ≡ true
    → ((x.duration ≡ 0) ⊎ (b ≤ source_of x)) × (lost_later xs a b ≡ true)
unfolding meets_parts
later_alone x xs a b p q = go (ltb 0 x.duration) (ltb (source_of x) b) refl refl
  where
    go : (s t : Bool) → ltb 0 x.duration ≡ s → ltb (source_of x) b ≡ t → ((x.duration ≡ 0) ⊎ (b ≤ source_of x)) × (lost_later xs a b ≡ true)
    go false t e f = (inl (omega (arith, ltb-false 0 x.duration e)), sym (later_on x xs a b (rw e)) ∙ q)
    go true false e f = (inr (ltb-false (source_of x) b f), sym (later_on x xs a b (rw (e, f) (sym (and_false (ltb a (source_end x)))))) ∙ q)
    go true true e f = let w : (ltb 0 x.duration && ltb (source_of x) b) ≡ true = rw (e, f) in absurd (true≢false (sym w ∙ p))

-- ---- a segment that is met stands in the map, and those that are told as behind it stand behind it
pub record Stands (m : List Segment) (a b : ℕ) (x : Segment) (xs : List Segment) : Type 0 where
  pub earlier : List Segment
  pub stands : m ≡ earlier ++ x ∷ xs
  pub met : meets x a b ≡ true

abbrev pub StandsIn : List Segment → (a b : ℕ) → Found → Type 0
StandsIn m a b miss = Unit {0}
StandsIn m a b (hit i x xs) = Stands m a b x xs

stands_more : (x : Segment) (m : List Segment) (a b : ℕ) (f : Found) → StandsIn m a b f → StandsIn (x ∷ m) a b f
stands_more x m a b miss s = tt
stands_more x m a b (hit i y ys) s = record { earlier = x ∷ s.earlier; stands = ap (λ (l : List Segment). x ∷ l) s.stands; met = s.met }

pub stands_in : (i : ℕ) (m : List Segment) (a b : ℕ) → StandsIn m a b (find_from i m a b)
unfolding find_from
stands_in i [] a b = tt
stands_in i (x ∷ xs) a b = go (meets x a b) refl (stands_in (suc i) xs a b)
  where
    go : (t : Bool) → meets x a b ≡ t → StandsIn xs a b (find_from (suc i) xs a b) → StandsIn (x ∷ xs) a b (cond t (hit i x xs) (find_from (suc i) xs a b))
    go true e s = record { earlier = []; stands = refl; met = e }
    go false e s = stands_more x xs a b (find_from (suc i) xs a b) s

-- ---- over such a map
pub adds : (m xs : List Segment) (a b : ℕ) (x : Segment) → Apart m → Stands m a b x xs → lost_next xs a b ≡ true → lost_later xs a b ≡ true
unfolding meets_parts
adds m [] a b x w s e = later_none a b ∙ e
adds m (y ∷ ys) a b x w s e =
    let k = long_next y b e in
    let long : 0 < x.duration = meets_long (source_of x) x.duration a b s.met in
    let gap : source_end x ≤ source_of y = w s.earlier [] ys x y (s.stands ∙ sym (append_assoc s.earlier (x ∷ []) (y ∷ ys))) long k.0 in
    let start : a < source_end x = meets_later (source_of x) x.duration a b s.met in
    later_here y ys a b (rw (lt-ltb 0 y.duration k.0, lt-ltb a (source_end y) (omega arith), lt-ltb (source_of y) b k.1))

pub only_adds : (m : List Segment) (a b i : ℕ) (x : Segment) (xs : List Segment) → Apart m → find_hit m a b ≡ hit i x xs → lost_next xs a b ≡ true → lost_later xs a b ≡ true
only_adds m a b i x xs w e p = adds m xs a b x w (subst (StandsIn m a b) e (stands_in 0 m a b)) p
