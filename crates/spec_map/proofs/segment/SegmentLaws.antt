-- Laws of the flat map and of its limits.
use mathlib.Core.Path.{◌≡◌, refl, sym, ap, subst, ◌∙◌}
use mathlib.Core.Bool.{Bool, true, false, cond, true≢false}
use mathlib.Core.List.{List, [], ◌∷◌}
use Prim.Native.Nat.{ℕ, ◌+◌, ◌-◌, ◌*◌, ◌/◌, ◌%◌, ◌^◌, ◌≤◌, ◌<◌}
use native.Mathlib.Omega.{arith}
use borrow.Author.Tests.{lt-ltb, le-ltb, eq-eqb, ne_eqb, ltb-true, ltb-false}
use lib.Dec.{ltb, eqb}
use lib.ListN.{length, drop, get_or, length-drop}
use Rattle.spec_base.specs.base.Limits.{most_frame, most_ticks, most_segments}
use Rattle.spec_base.proofs.base.Laws.{yes!, no! }
use Rattle.spec_map.specs.declared.segment.Segment.{Segment}
use Rattle.spec_map.specs.segment.Segment.{flat_of, segment, segments_of, end_bad, segment_bad, any_bad, map_bad}

-- ---- a start and a duration against the limit, without their sum
pub end_past : (a d : ℕ) → most_ticks < a → true ≡ end_bad a d
unfolding end_bad
end_past a d h = sym (lt-ltb most_ticks (a + d) (omega arith))

pub end_tested : (a d : ℕ) → a ≤ most_ticks → ltb (most_ticks - a) d ≡ end_bad a d
unfolding end_bad
end_tested a d h = go (ltb (most_ticks - a) d) refl
  where
    go : (t : Bool) → ltb (most_ticks - a) d ≡ t → t ≡ ltb most_ticks (a + d)
    go true e = sym (lt-ltb most_ticks (a + d) (omega (arith, ltb-true (most_ticks - a) d e)))
    go false e = sym (le-ltb most_ticks (a + d) (omega (arith, ltb-false (most_ticks - a) d e)))

-- ---- the first segment of flat numbers
pub segments_cut : (t : List ℕ) → 6 ≤ length t
    → segments_of t ≡ segment (get_or t 0 0) (get_or t 1 0) (get_or t 2 0) (get_or t 3 0) (get_or t 4 0) (get_or t 5 0) ∷ segments_of (drop 6 t)
unfolding segments_of
segments_cut [] h = absurd (omega arith)
segments_cut (a ∷ []) h = absurd (omega arith)
segments_cut (a ∷ b ∷ []) h = absurd (omega arith)
segments_cut (a ∷ b ∷ c ∷ []) h = absurd (omega arith)
segments_cut (a ∷ b ∷ c ∷ d ∷ []) h = absurd (omega arith)
segments_cut (a ∷ b ∷ c ∷ d ∷ e ∷ []) h = absurd (omega arith)
segments_cut (a ∷ b ∷ c ∷ d ∷ e ∷ f ∷ r) h = refl

pub segments_short : (t : List ℕ) → length t < 6 → segments_of t ≡ []
unfolding segments_of
segments_short [] h = refl
segments_short (a ∷ []) h = refl
segments_short (a ∷ b ∷ []) h = refl
segments_short (a ∷ b ∷ c ∷ []) h = refl
segments_short (a ∷ b ∷ c ∷ d ∷ []) h = refl
segments_short (a ∷ b ∷ c ∷ d ∷ e ∷ []) h = refl
segments_short (a ∷ b ∷ c ∷ d ∷ e ∷ f ∷ r) h = absurd (omega arith)

pub six_less : (t u : List ℕ) → u ≡ drop 6 t → 6 ≤ length t → length u < length t
six_less t u e h = subst (λ (x : List ℕ). length x < length t) (sym e) (simp length-drop (omega arith))

-- ---- a map segment by segment
six : (t : List ℕ) → 6 ≤ length t
    → any_bad (segments_of t)
    ≡ cond (segment_bad (get_or t 0 0) (get_or t 1 0) (get_or t 2 0) (get_or t 3 0) (get_or t 4 0) (get_or t 5 0)) true (any_bad (segments_of (drop 6 t)))
unfolding any_bad
six t h = ap any_bad (segments_cut t h)

-- ---- a segment as one number, 0 where it breaks no limit
abbrev twice : ℕ
twice = 18014398509481984

module _ (a d e f : ℕ) (sa : a < 2 ^ 64) (sd : d < 2 ^ 64) (pe : e ≡ (a + d) % 2 ^ 64) (pf : f ≡ (e + (most_ticks - 1)) % 2 ^ 64) where
  past_far : most_ticks < a + d → 0 < a / twice + d / twice + f / twice
  past_far h = omega arith

  past_near : a + d ≤ most_ticks → a / twice + d / twice + f / twice ≤ 0
  past_near h = omega arith

  pub past_tells : ltb 0 (a / twice + d / twice + f / twice) ≡ end_bad a d
  unfolding end_bad
  past_tells = go (ltb most_ticks (a + d)) refl
    where
      go : (t : Bool) → ltb most_ticks (a + d) ≡ t → ltb 0 (a / twice + d / twice + f / twice) ≡ t
      go true q = lt-ltb 0 _ (past_far (ltb-true most_ticks (a + d) q))
      go false q = le-ltb 0 _ (past_near (ltb-false most_ticks (a + d) q))

  pub past_small : a / twice + d / twice + f / twice ≤ 3072
  past_small = omega arith

-- a sum of three, then two more: 0 where each is
pub frame_tells : (a : ℕ) → ltb 0 (a / 4294967296) ≡ ltb most_frame a
frame_tells a = go (ltb most_frame a) refl
  where
    go : (t : Bool) → ltb most_frame a ≡ t → ltb 0 (a / 4294967296) ≡ t
    go true q = lt-ltb 0 (a / 4294967296) (omega (arith, ltb-true most_frame a q))
    go false q = le-ltb 0 (a / 4294967296) (omega (arith, ltb-false most_frame a q))

pub sum_tells : (x y : ℕ) → ltb 0 (x + y) ≡ cond (ltb 0 x) true (ltb 0 y)
sum_tells x y = go (ltb 0 x) refl
  where
    go : (t : Bool) → ltb 0 x ≡ t → ltb 0 (x + y) ≡ cond t true (ltb 0 y)
    go true q = lt-ltb 0 (x + y) (omega (arith, ltb-true 0 x q))
    go false q = let z : x + y ≡ y = omega (arith, ltb-false 0 x q) in ap (λ (k : ℕ). ltb 0 k) z

pub or_or : (s t u : Bool) → cond (cond s true t) true u ≡ cond s true (cond t true u)
or_or true t u = refl
or_or false t u = refl

module _ (a b q k o d x y : ℕ) (ex : ltb 0 x ≡ end_bad q d) (ey : ltb 0 y ≡ end_bad o d) where
  pub excess_tells : ltb 0 (a / 4294967296 + b / 4294967296 + k / 4294967296 + x + y) ≡ segment_bad a b q k o d
  unfolding segment_bad
  excess_tells =
      let A = a / 4294967296 in
      let B = b / 4294967296 in
      let K = k / 4294967296 in
      sum_tells (A + B + K + x) y
      ∙ ap (λ (t : Bool). cond t true (ltb 0 y)) (sum_tells (A + B + K) x ∙ ap (λ (t : Bool). cond t true (ltb 0 x)) (sum_tells (A + B) K ∙ ap (λ (t : Bool). cond t true (ltb 0 K)) (sum_tells A B)))
      ∙ all (ltb 0 A) (ltb 0 B) (ltb 0 K) (ltb 0 x) (ltb 0 y)
      ∙ rw (frame_tells a, frame_tells b, frame_tells k, ex, ey) refl
    where
      all : (r s t u v : Bool) → cond (cond (cond (cond r true s) true t) true u) true v ≡ cond r true (cond s true (cond t true (cond u true v)))
      all true s t u v = refl
      all false true t u v = refl
      all false false true u v = refl
      all false false false u v = refl

-- the call's answer x on the numbers read from t
read_six : (t : List ℕ) (a b q k o d x n : ℕ) → 6 ≤ length t
    → a ≡ get_or t 0 0 → b ≡ get_or t 1 0 → q ≡ get_or t 2 0 → k ≡ get_or t 3 0 → o ≡ get_or t 4 0 → d ≡ get_or t 5 0 → ltb 0 x ≡ segment_bad a b q k o d
    → cond (ltb 0 n) true (any_bad (segments_of t)) ≡ cond (ltb 0 (n + x)) true (any_bad (segments_of (drop 6 t)))
read_six t a b q k o d x n h e0 e1 e2 e3 e4 e5 e =
    let s : ltb 0 x ≡ segment_bad (get_or t 0 0) (get_or t 1 0) (get_or t 2 0) (get_or t 3 0) (get_or t 4 0) (get_or t 5 0) = cc in
    let r = any_bad (segments_of (drop 6 t)) in
    ap (λ (y : Bool). cond (ltb 0 n) true y) (six t h ∙ sym (ap (λ (y : Bool). cond y true r) s))
    ∙ sym (or_or (ltb 0 n) (ltb 0 x) r) ∙ sym (ap (λ (y : Bool). cond y true r) (sum_tells n x))

-- the loop: m the map, t what is left of it, a whole number of segments; n is 0 where no limit is broken so far
pub record Left (m t : List ℕ) (n : ℕ) : Type 0 where
  pub few : length t ≤ 6144
  pub small : n ≤ 2 ^ 34 * (6144 - length t)
  pub answer : map_bad m ≡ cond (ltb 0 n) true (any_bad (segments_of t))

pub left_parts : (m : List ℕ) (r : ℕ) → r ≡ length m % 6 → (r ≡ 0 → ⊥) → true ≡ map_bad m
unfolding map_bad
left_parts m r e h = no! _ (ne_eqb (length m % 6) 0 (λ z. h (e ∙ z))) refl

pub left_many : (m : List ℕ) (r : ℕ) → r ≡ length m % 6 → r ≡ 0 → 6 * most_segments < length m → true ≡ map_bad m
unfolding map_bad
left_many m r e z h = yes! _ (eq-eqb (length m % 6) 0 (sym e ∙ z)) (yes! _ (lt-ltb (6 * most_segments) (length m) h) refl)

pub segments_start : (m : List ℕ) (r : ℕ) → r ≡ length m % 6 → r ≡ 0 → length m ≤ 6 * most_segments → Left m m 0
unfolding map_bad
segments_start m r e z h =
    record {
      few = h;
      small = omega arith;
      answer = sym (yes! _ (eq-eqb (length m % 6) 0 (sym e ∙ z)) (no! _ (le-ltb (6 * most_segments) (length m) h) refl));
    }

pub left_sum : (m t : List ℕ) (n x : ℕ) → Left m t n → x ≤ 2 ^ 34 → n + x < 2 ^ 64
left_sum m t n x inv h = omega (arith, inv.small)

pub left_again : (m t u : List ℕ) (a b q k o d x n : ℕ) → Left m t n → 6 ≤ length t
    → a ≡ get_or t 0 0 → b ≡ get_or t 1 0 → q ≡ get_or t 2 0 → k ≡ get_or t 3 0 → o ≡ get_or t 4 0 → d ≡ get_or t 5 0 → (ltb 0 x ≡ segment_bad a b q k o d) × (x ≤ 2 ^ 34)
    → u ≡ drop 6 t → Left m u (n + x)
left_again m t u a b q k o d x n inv h e0 e1 e2 e3 e4 e5 e f =
    let l : length u ≡ length t - 6 = ap length f ∙ length-drop 6 t in
    record {
      few = omega (arith, inv.few);
      small = omega (arith, inv.small, inv.few, e.1);
      answer =
          inv.answer ∙ read_six t a b q k o d x n h e0 e1 e2 e3 e4 e5 e.0
          ∙ ap (λ (l : List ℕ). cond (ltb 0 (n + x)) true (any_bad (segments_of l))) (sym f);
    }

pub left_none : (m t : List ℕ) (n : ℕ) → Left m t n → length t < 6 → ltb 0 n ≡ map_bad m
unfolding any_bad
left_none m t n inv h = sym (inv.answer ∙ ap (λ (xs : List Segment). cond (ltb 0 n) true (any_bad xs)) (segments_short t h) ∙ none (ltb 0 n))
  where
    none : (t : Bool) → cond t true false ≡ t
    none true = refl
    none false = refl

-- ---- flat numbers and segments
pub flat_back : (xs : List Segment) → segments_of (flat_of xs) ≡ xs
unfolding flat_of segments_of
flat_back [] = refl
flat_back (x ∷ xs) = ap (λ (ys : List Segment). x ∷ ys) (flat_back xs)

-- ---- within the limits
pub end_good : (a d : ℕ) → end_bad a d ≡ false → a + d ≤ most_ticks
unfolding end_bad
end_good a d e = ltb-false most_ticks (a + d) e

-- ---- a good map has no bad segment
pub any_good : (m : List ℕ) → map_bad m ≡ false → any_bad (segments_of m) ≡ false
unfolding map_bad
any_good m e = go (eqb (length m % 6) 0) (ltb (6 * most_segments) (length m)) e
  where
    go : (t s : Bool) → cond t (cond s true (any_bad (segments_of m))) true ≡ false → any_bad (segments_of m) ≡ false
    go true true q = absurd (true≢false q)
    go true false q = q
    go false s q = absurd (true≢false q)

-- ---- six numbers a segment
pub flat_length : (xs : List Segment) → length (flat_of xs) ≡ 6 * length xs
unfolding flat_of
flat_length [] = refl
flat_length (x ∷ xs) = omega (arith, flat_length xs)
