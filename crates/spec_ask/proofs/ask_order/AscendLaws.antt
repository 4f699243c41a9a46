-- Laws of the test that a map ascends: the loop over the flat map, and the plain words.
use mathlib.Core.Path.{◌≡◌, refl, sym, ap, ◌∙◌}
use mathlib.Core.Bool.{Bool, true, false, cond}
use mathlib.Core.List.{List}
use Prim.Native.Nat.{ℕ, ◌+◌, ◌-◌, ◌≤◌, ◌<◌}
use native.Mathlib.Omega.{arith}
use borrow.Author.Tests.{lt-ltb, le-ltb, eq-eqb, ne_eqb, ltb-true, ltb-false}
use lib.Dec.{ltb, eqb}
use lib.ListN.{length, drop, get_or}
use Rattle.spec_base.proofs.base.Laws.{yes!, no! }
use Rattle.spec_map.specs.declared.segment.Segment.{Segment}
use Rattle.spec_map.specs.segment.Segment.{segments_of}
use Rattle.spec_map.proofs.segment.SegmentLaws.{segments_cut, segments_short}
use Rattle.spec_ask.specs.ask_order.Ascending.{steps_back, after, ascends_from, ascends}

-- ---- one test
pub ends_1 : (q d at : ℕ) → at < q → true ≡ ltb at (q + d)
ends_1 q d at h = sym (lt-ltb at (q + d) (omega arith))

pub ends_2 : (q d at : ℕ) → q ≤ at → ltb (at - q) d ≡ ltb at (q + d)
ends_2 q d at h = go (ltb (at - q) d) refl
  where
    go : (t : Bool) → ltb (at - q) d ≡ t → t ≡ ltb at (q + d)
    go true e = sym (lt-ltb at (q + d) (omega (arith, ltb-true (at - q) d e)))
    go false e = sym (le-ltb at (q + d) (omega (arith, ltb-false (at - q) d e)))

pub after_1 : (d a b : ℕ) → d ≡ 0 → a ≡ after d a b
unfolding after
after_1 d a b e = yes! _ (eq-eqb d 0 e) refl

pub after_2 : (d a b : ℕ) → (d ≡ 0 → ⊥) → b ≡ after d a b
unfolding after
after_2 d a b e = no! _ (ne_eqb d 0 e) refl

pub back_1 : (s o q p d : ℕ) → d ≡ 0 → false ≡ steps_back s o q p d
unfolding steps_back
back_1 s o q p d e = yes! _ (eq-eqb d 0 e) refl

pub back_2 : (s o q p d : ℕ) (x : Bool) → (d ≡ 0 → ⊥) → x ≡ ltb q s → x ≡ true → true ≡ steps_back s o q p d
unfolding steps_back
back_2 s o q p d x n e h = no! _ (ne_eqb d 0 n) (yes! _ (sym e ∙ h) refl)

pub back_3 : (s o q p d : ℕ) (x y : Bool) → (d ≡ 0 → ⊥) → x ≡ ltb q s → x ≡ false → y ≡ ltb p o → y ≡ steps_back s o q p d
unfolding steps_back
back_3 s o q p d x y n e h f = no! _ (ne_eqb d 0 n) (no! _ (sym e ∙ h) f)

-- the sum of two numbers that a segment of duration d changes
after_sum : (d a b l m : ℕ) → after d a b + after d l m ≡ after d (a + l) (b + m)
unfolding after
after_sum d a b l m = go (eqb d 0)
  where
    go : (t : Bool) → cond t a b + cond t l m ≡ cond t (a + l) (b + m)
    go true = refl
    go false = refl

-- ---- the loop
ascend_cut : (t : List ℕ) (s o q p d : ℕ) → 6 ≤ length t → q ≡ get_or t 2 0 → p ≡ get_or t 4 0 → d ≡ get_or t 5 0
    → ascends_from s o (segments_of t) ≡ cond (steps_back s o q p d) false (ascends_from (after d s (q + d)) (after d o (p + d)) (segments_of (drop 6 t)))
unfolding ascends_from
ascend_cut t s o q p d h eq ep ed = rw (segments_cut t h, eq, ep, ed)

-- what is left behind the first segment
abbrev left_of : (t : List ℕ) → (s o q p d : ℕ) → Bool
left_of t s o q p d = ascends_from (after d s (q + d)) (after d o (p + d)) (segments_of (drop 6 t))

pub ascend_back : (m t : List ℕ) (s o l q p d : ℕ) (x : Bool) → ascends (segments_of m) ≡ ascends_from (s + l) (o + l) (segments_of t) → 6 ≤ length t
    → q ≡ get_or t 2 0 → p ≡ get_or t 4 0 → d ≡ get_or t 5 0 → x ≡ steps_back (s + l) (o + l) q p d → x ≡ true → false ≡ ascends (segments_of m)
ascend_back m t s o l q p d x inv h eq ep ed e y =
    sym (inv ∙ ascend_cut t (s + l) (o + l) q p d h eq ep ed ∙ ap (λ (b : Bool). cond b false (left_of t (s + l) (o + l) q p d)) (sym e ∙ y))

pub ascend_again : (m t u : List ℕ) (s o l q p d s' o' l' : ℕ) (x : Bool) → ascends (segments_of m) ≡ ascends_from (s + l) (o + l) (segments_of t) → 6 ≤ length t
    → q ≡ get_or t 2 0 → p ≡ get_or t 4 0 → d ≡ get_or t 5 0 → x ≡ steps_back (s + l) (o + l) q p d → x ≡ false
    → s' ≡ after d s q → o' ≡ after d o p → l' ≡ after d l d → u ≡ drop 6 t
    → ascends (segments_of m) ≡ ascends_from (s' + l') (o' + l') (segments_of u)
ascend_again m t u s o l q p d s' o' l' x inv h eq ep ed e y es eo el eu =
    let k : left_of t (s + l) (o + l) q p d ≡ ascends_from (s' + l') (o' + l') (segments_of u) = rw (es, eo, el, eu, after_sum d s q l d, after_sum d o p l d) in
    inv ∙ ascend_cut t (s + l) (o + l) q p d h eq ep ed ∙ ap (λ (b : Bool). cond b false (left_of t (s + l) (o + l) q p d)) (sym e ∙ y) ∙ k

pub ascend_end : (m t : List ℕ) (s o l : ℕ) → ascends (segments_of m) ≡ ascends_from (s + l) (o + l) (segments_of t) → length t < 6 → true ≡ ascends (segments_of m)
unfolding ascends_from
ascend_end m t s o l inv h = sym (inv ∙ ap (λ (x : List Segment). ascends_from (s + l) (o + l) x) (segments_short t h))

pub ascend_start : (m : List ℕ) → ascends (segments_of m) ≡ ascends_from (0 + 0) (0 + 0) (segments_of m)
unfolding ascends
ascend_start m = refl
