-- Laws of segments with the bounds of their groups.
use mathlib.Core.Path.{◌≡◌, refl, sym, ap, ◌∙◌}
use mathlib.Core.Bool.{Bool, true, false, cond, ◌&&◌, true≢false}
use mathlib.Core.List.{List, [], ◌∷◌, ◌++◌}
use Prim.Native.Nat.{ℕ, zero, suc, ◌+◌, ◌*◌, ◌-◌, ◌/◌, ◌%◌, ◌^◌, ◌≤◌, ◌<◌, min, max}
use native.Mathlib.Omega.{arith}
use native.Mathlib.Numerals.{add-one}
use borrow.Author.Tests.{le-ltb, ltb-false, leb-true, leb-false, le-leb, lt-leb, ne_eqb, eq-eqb, eqb-true}
use lib.Dec.{ltb, leb, eqb}
use lib.ListN.{length, take, drop, get_or, length-drop}
use lib.Seq.{drop-drop, get_or-drop, length-take-le}
use Rattle.std.specs.Prelude.{Option, Some, None, is_some}
use Rattle.spec_base.proofs.base.Laws.{and_left, and_right, and_false, and_true}
use Rattle.spec_base.specs.base.Limits.{most_frame, most_ticks, most_segments}
use Rattle.spec_map.specs.declared.segment.Segment.{Segment}
use Rattle.spec_map.specs.segment.Segment.{source_of, segments_of, end_bad, segment_bad, any_bad, map_bad}
use Rattle.spec_map.specs.segment.Groups.{low_of, high_of, groups_by, group_count, groups_of}
use Rattle.spec_map.proofs.segment.SegmentLaws.{segments_cut, segments_short, any_good}
use Rattle.spec_map.proofs.segment.GroupLaws.{segments_split, front_few}
use Rattle.spec_caption.specs.declared.caption_fate.Met.{Met}
use Rattle.spec_caption.specs.caption_fate.Hit.{meets_parts, meets, Found, miss, hit, find_from, find_hit, met_of, hit_of, met_at}
use Rattle.spec_caption.specs.caption_fate.Grouped.{low_at, high_at, within_parts, emptied, bounded, bounded_from, bounded_by, segments_by, passable, passed_at}
use Rattle.spec_caption.specs.caption_fate.Lost.{lost_rule}
use Rattle.spec_caption.specs.declared.caption_fate.Config.{Config}
use Rattle.spec_caption.specs.declared.caption_fate.Retimed.{Retimed}
use Rattle.spec_caption.specs.declared.caption_fate.Decision.TheVariants.{Kept}
use Rattle.spec_time.specs.caption_time.Convert.{ticks_within, start_within, end_within}
use Rattle.spec_caption.specs.caption_fate.Decide.{retimed_by, decide_in}
use Rattle.spec_caption.proofs.caption_fate.DecideLaws.{decide_kept}
use Rattle.spec_caption.proofs.caption_fate.HitLaws.{head_of, met_is, lost_found, no_hit, behind_of}

-- ---- within the bounds, without a sum
pub within_1 : (q d low high : ℕ) → q < low → false ≡ within_parts q d low high
unfolding within_parts
within_1 q d low high h = rw (lt-leb low q h)

pub within_2 : (q d low high : ℕ) → low ≤ q → high < q → false ≡ within_parts q d low high
unfolding within_parts
within_2 q d low high h k = rw (le-leb low q h, lt-leb (q + d) high (omega arith))

pub within_3 : (q d low high : ℕ) → low ≤ q → q ≤ high → leb d (high - q) ≡ within_parts q d low high
unfolding within_parts
within_3 q d low high h k = rw (le-leb low q h) (go (leb d (high - q)) refl)
  where
    go : (t : Bool) → leb d (high - q) ≡ t → t ≡ leb (q + d) high
    go true e = sym (le-leb (q + d) high (omega (arith, k, leb-true d (high - q) e)))
    go false e = sym (lt-leb (q + d) high (omega (arith, k, leb-false d (high - q) e)))

-- ---- a bounded segment meets where it is within the bounds and meets
meets_empty : (q a b : ℕ) → meets_parts q 0 a b ≡ false
unfolding meets_parts
meets_empty q a b = refl

pub bounded_meets : (g : List ℕ) (i : ℕ) (x : Segment) (a b : ℕ)
    → meets (bounded g i x) a b ≡ (meets_parts (source_of x) x.duration a b && within_parts (source_of x) x.duration (low_at g i) (high_at g i))
bounded_meets g i x a b = go (within_parts (source_of x) x.duration (low_at g i) (high_at g i)) refl
  where
    go : (t : Bool) → within_parts (source_of x) x.duration (low_at g i) (high_at g i) ≡ t
        → meets (cond t x (emptied x)) a b ≡ (meets_parts (source_of x) x.duration a b && t)
    go true e = sym (and_true (meets_parts (source_of x) x.duration a b))
    go false e = meets_empty (source_of x) a b ∙ and_false (meets_parts (source_of x) x.duration a b)

-- ---- the search, segment by segment
pub bounded_cut : (g t : List ℕ) (i a b : ℕ) (f : Bool) → 6 ≤ length t
    → f ≡ (meets_parts (get_or t 2 0) (get_or t 5 0) a b && within_parts (get_or t 2 0) (get_or t 5 0) (low_at g i) (high_at g i))
    → find_from i (bounded_from g i (segments_of t)) a b
    ≡ cond f (hit i (bounded g i (head_of t)) (bounded_from g (suc i) (segments_of (drop 6 t)))) (find_from (suc i) (bounded_from g (suc i) (segments_of (drop 6 t))) a b)
unfolding find_from bounded_from
bounded_cut g t i a b f h e = rw (segments_cut t h, bounded_meets g i (head_of t) a b, sym e) refl

bounded_short : (g t : List ℕ) (i a b : ℕ) → length t < 6 → find_from i (bounded_from g i (segments_of t)) a b ≡ miss
unfolding find_from bounded_from
bounded_short g t i a b h = rw (segments_short t h) refl

-- nothing within bounds that end at or before a, or begin at or after b, meets a to b
out_ended : (q d low high a b : ℕ) → high ≤ a → (meets_parts q d a b && within_parts q d low high) ≡ false
unfolding meets_parts within_parts
out_ended q d low high a b h = go (leb (q + d) high) refl
  where
    go : (t : Bool) → leb (q + d) high ≡ t → ((ltb 0 d && (ltb a (q + d) && ltb q b)) && (leb low q && t)) ≡ false
    go true e = rw (le-ltb a (q + d) (omega (arith, leb-true (q + d) high e)), sym (and_false (ltb 0 d))) refl
    go false e = rw (sym (and_false (leb low q))) (sym (and_false (ltb 0 d && (ltb a (q + d) && ltb q b))))

out_later : (q d low high a b : ℕ) → b ≤ low → (meets_parts q d a b && within_parts q d low high) ≡ false
unfolding meets_parts within_parts
out_later q d low high a b h = go (leb low q) refl
  where
    go : (t : Bool) → leb low q ≡ t → ((ltb 0 d && (ltb a (q + d) && ltb q b)) && (t && leb (q + d) high)) ≡ false
    go true e = rw (le-ltb q b (omega (arith, leb-true low q e)), sym (and_false (ltb a (q + d))), sym (and_false (ltb 0 d))) refl
    go false e = sym (and_false (ltb 0 d && (ltb a (q + d) && ltb q b)))

-- a group whose bounds a to b does not meet
out_group : (g : List ℕ) (p q d a b : ℕ) → passable g p a b ≡ true → (meets_parts q d a b && within_parts q d (get_or g (2 * p) 0) (get_or g (2 * p + 1) 0)) ≡ false
unfolding passable
out_group g p q d a b e = go (leb (get_or g (2 * p + 1) 0) a) refl e
  where
    go : (t : Bool) → leb (get_or g (2 * p + 1) 0) a ≡ t → cond t true (leb b (get_or g (2 * p) 0)) ≡ true → (meets_parts q d a b && within_parts q d (get_or g (2 * p) 0) (get_or g (2 * p + 1) 0)) ≡ false
    go true x y = out_ended q d (get_or g (2 * p) 0) (get_or g (2 * p + 1) 0) a b (leb-true (get_or g (2 * p + 1) 0) a x)
    go false x y = out_later q d (get_or g (2 * p) 0) (get_or g (2 * p + 1) 0) a b (leb-true b (get_or g (2 * p) 0) y)

pass_some : (g : List ℕ) (p a b n i : ℕ) (t : List ℕ) → passable g p a b ≡ true → ((k : ℕ) → k < n → (i + k) / 16 ≡ p)
    → find_from i (bounded_from g i (segments_of t)) a b ≡ find_from (i + n) (bounded_from g (i + n) (segments_of (drop (6 * n) t))) a b
pass_some g p a b zero i t e h = let z : i ≡ i + 0 = omega arith in ap (λ (j : ℕ). find_from j (bounded_from g j (segments_of t)) a b) z
pass_some g p a b (suc n) i t e h =
    go (leb 6 (length t)) refl (pass_some g p a b n (suc i) (drop 6 t) e (λ k l. let z : suc i + k ≡ i + suc k = omega arith in ap (λ (j : ℕ). j / 16) z ∙ h (suc k) (omega arith)))
  where
    go : (y : Bool) → leb 6 (length t) ≡ y
        → find_from (suc i) (bounded_from g (suc i) (segments_of (drop 6 t))) a b ≡ find_from (suc i + n) (bounded_from g (suc i + n) (segments_of (drop (6 * n) (drop 6 t)))) a b
        → find_from i (bounded_from g i (segments_of t)) a b ≡ find_from (i + suc n) (bounded_from g (i + suc n) (segments_of (drop (6 * suc n) t))) a b
    go true y ih =
        let c : i / 16 ≡ p = (let z : i ≡ i + 0 = omega arith in ap (λ (j : ℕ). j / 16) z) ∙ h 0 (omega arith) in
        let f : (meets_parts (get_or t 2 0) (get_or t 5 0) a b && within_parts (get_or t 2 0) (get_or t 5 0) (low_at g i) (high_at g i)) ≡ false = rw c (out_group g p (get_or t 2 0) (get_or t 5 0) a b e) in
        let z : suc i + n ≡ i + suc n = omega arith in
        let w : 6 + 6 * n ≡ 6 * suc n = omega arith in
        bounded_cut g t i a b false (leb-true 6 (length t) y) (sym f) ∙ ih
        ∙ ap (λ (s : List ℕ). find_from (suc i + n) (bounded_from g (suc i + n) (segments_of s)) a b) (drop-drop (6 * n) 6 t ∙ ap (λ (j : ℕ). drop j t) w)
        ∙ ap (λ (j : ℕ). find_from j (bounded_from g j (segments_of (drop (6 * suc n) t))) a b) z
    go false y ih =
        let s : length t < 6 = leb-false 6 (length t) y in
        let u : length (drop (6 * suc n) t) < 6 = simp length-drop (omega (arith, s)) in
        bounded_short g t i a b s ∙ sym (bounded_short g (drop (6 * suc n) t) (i + suc n) a b u)

-- ---- the tests of the code
pub passed_0 : (g : List ℕ) (i a b r : ℕ) → r ≡ i % 16 → (r ≡ 0 → ⊥) → false ≡ passed_at g i a b
unfolding passed_at
passed_0 g i a b r e h = rw (ne_eqb (i % 16) 0 (λ z. h (e ∙ z))) refl

module _ (g : List ℕ) (i a b r k x : ℕ) (e : r ≡ i % 16) (h : r ≡ 0) (ek : k ≡ 2 * (i / 16)) (ex : x ≡ get_or g (k + 1) 0) where
  pub passed_1 : x ≤ a → true ≡ passed_at g i a b
  unfolding passed_at passable
  passed_1 l = rw (eq-eqb (i % 16) 0 (sym e ∙ h), sym ek, sym ex, le-leb x a l) refl

  pub passed_2 : (y : ℕ) → a < x → y ≡ get_or g k 0 → leb b y ≡ passed_at g i a b
  unfolding passed_at passable
  passed_2 y l ey = rw (eq-eqb (i % 16) 0 (sym e ∙ h), sym ek, sym ex, lt-leb x a l, sym ey) refl

pub met_within : (g : List ℕ) (i q d a b k x y : ℕ) (t r : Bool) → t ≡ meets_parts q d a b → t ≡ true → k ≡ 2 * (i / 16) → x ≡ get_or g k 0 → y ≡ get_or g (k + 1) 0 → r ≡ within_parts q d x y
    → r ≡ (meets_parts q d a b && within_parts q d (low_at g i) (high_at g i))
met_within g i q d a b k x y t r et p ek ex ey er = rw (sym et, p) (er ∙ rw (ex, ey, ek) refl)

pub not_met : (g : List ℕ) (i q d a b : ℕ) (t : Bool) → t ≡ meets_parts q d a b → t ≡ false → false ≡ (meets_parts q d a b && within_parts q d (low_at g i) (high_at g i))
not_met g i q d a b t et p = rw (sym et, p) refl

-- ---- the loop: what is left of the search, from the place i on, is the whole answer
pub record Seeking (m g : List ℕ) (from a b i : ℕ) (t : List ℕ) : Type 0 where
  pub same : find_from i (bounded_from g i (segments_of t)) a b ≡ find_from from (bounded_from g from (segments_of (drop (6 * from) m))) a b
  pub place : 6 * i + length t ≤ length m + 96
  pub inside : 0 < length t → 6 * i + length t ≤ length m

pub seeking_start : (m g t : List ℕ) (from a b : ℕ) → 6 * from ≤ length m → t ≡ drop (6 * from) m → Seeking m g from a b from t
seeking_start m g t from a b h e =
    let l : length t ≡ length m - 6 * from = ap length e ∙ length-drop (6 * from) m in
    record { same = ap (λ (x : List ℕ). find_from from (bounded_from g from (segments_of x)) a b) e; place = omega (arith, l); inside = λ z. omega (arith, l) }

pub seeking_group : (m g t u : List ℕ) (from a b i : ℕ) (x : Bool) → Seeking m g from a b i t → 6 ≤ length t → x ≡ passed_at g i a b → x ≡ true → u ≡ drop 96 t → Seeking m g from a b (i + 16) u
unfolding passed_at
seeking_group m g t u from a b i x s h e p eu =
    let l : length u ≡ length t - 96 = ap length eu ∙ length-drop 96 t in
    let q : eqb (i % 16) 0 && passable g (i / 16) a b ≡ true = sym e ∙ p in
    let z : i % 16 ≡ 0 = eqb-true (i % 16) 0 (and_left (eqb (i % 16) 0) _ q) in
    let v : passable g (i / 16) a b ≡ true = and_right (eqb (i % 16) 0) _ q in
    record {
      same = rw eu (sym (pass_some g (i / 16) a b 16 i t v (λ k y. omega (arith, z, y))) ∙ s.same);
      place = omega (arith, l, s.inside (omega arith));
      inside = λ y. omega (arith, l, y, s.inside (omega arith));
    }

module _ (m g t : List ℕ) (from a b i q d : ℕ) (f : Bool) (s : Seeking m g from a b i t) (h : 6 ≤ length t) (eq : q ≡ get_or t 2 0) (ed : d ≡ get_or t 5 0)
    (ef : f ≡ (meets_parts q d a b && within_parts q d (low_at g i) (high_at g i))) where
  cut : (y : Bool) → f ≡ y → find_from i (bounded_from g i (segments_of t)) a b
      ≡ cond y (hit i (bounded g i (head_of t)) (bounded_from g (suc i) (segments_of (drop 6 t)))) (find_from (suc i) (bounded_from g (suc i) (segments_of (drop 6 t))) a b)
  cut y p = bounded_cut g t i a b y h (sym p ∙ ef ∙ rw (eq, ed) refl)

  pub seeking_again : (u : List ℕ) → f ≡ false → u ≡ drop 6 t → Seeking m g from a b (i + 1) u
  seeking_again u p eu =
      let l : length u ≡ length t - 6 = ap length eu ∙ length-drop 6 t in
      record {
        same = rw (add-one, eu) (sym (cut false p) ∙ s.same);
        place = omega (arith, l, s.inside (omega arith));
        inside = λ y. omega (arith, l, s.inside (omega arith));
      }

  pub seeking_found : (x : Met) → f ≡ true → x ≡ met_at i t → Some x ≡ hit_of (find_from from (bounded_from g from (segments_of (drop (6 * from) m))) a b)
  seeking_found x p ex =
      let w : within_parts (get_or t 2 0) (get_or t 5 0) (low_at g i) (high_at g i) ≡ true = and_right (meets_parts (get_or t 2 0) (get_or t 5 0) a b) _ (rw (sym eq, sym ed) (sym ef ∙ p)) in
      ap Some (ex ∙ met_is i t) ∙ ap (λ (y : Segment). Some (met_of i y)) (sym (ap (λ (y : Bool). cond y (head_of t) (emptied (head_of t))) w)) ∙ ap hit_of (sym (cut true p) ∙ s.same)

pub seeking_none : (m g t : List ℕ) (from a b i : ℕ) → Seeking m g from a b i t → length t < 6 → None ≡ hit_of (find_from from (bounded_from g from (segments_of (drop (6 * from) m))) a b)
seeking_none m g t from a b i s h = ap hit_of (sym (bounded_short g t i a b h) ∙ s.same)

pub seeking_less : (t u : List ℕ) → u ≡ drop 96 t → 6 ≤ length t → length u < length t
seeking_less t u e h = let l : length u ≡ length t - 96 = ap length e ∙ length-drop 96 t in omega arith

-- ---- with bounds or without
bounded_empty : (g : List ℕ) (i : ℕ) (xs : List Segment) → length g ≡ 0 → bounded_by g i xs ≡ xs
unfolding bounded_by
bounded_empty [] i xs h = refl
bounded_empty (x ∷ g) i xs h = absurd (omega arith)

bounded_some : (g : List ℕ) (i : ℕ) (xs : List Segment) → (length g ≡ 0 → ⊥) → bounded_by g i xs ≡ bounded_from g i xs
unfolding bounded_by
bounded_some [] i xs h = absurd (h refl)
bounded_some (x ∷ g) i xs h = refl

pub by_none : (m g : List ℕ) (a b : ℕ) (h : Option Met) → length g ≡ 0 → h ≡ hit_of (find_hit (segments_of m) a b) → h ≡ hit_of (find_hit (segments_by g m) a b)
by_none m g a b h e p = p ∙ ap (λ (x : List Segment). hit_of (find_hit x a b)) (sym (bounded_empty g 0 (segments_of m) e))

pub by_some : (m g : List ℕ) (a b : ℕ) (h : Option Met) → (length g ≡ 0 → ⊥) → h ≡ hit_of (find_from 0 (bounded_from g 0 (segments_of (drop (6 * 0) m))) a b) → h ≡ hit_of (find_hit (segments_by g m) a b)
by_some m g a b h e p = p ∙ ap (λ (x : List Segment). hit_of (find_hit x a b)) (sym (bounded_some g 0 (segments_of m) e))

-- the segments behind place k
abbrev pub behind_by : (groups map : List ℕ) → (k : ℕ) → List Segment
behind_by g m k = bounded_by g (k + 1) (segments_of (drop (6 * k + 6) m))

pub lost_plain : (m g u : List ℕ) (k a b : ℕ) (r : Bool) → length g ≡ 0 → u ≡ drop (6 * k + 6) m → r ≡ lost_rule (segments_of u) a b → r ≡ lost_rule (behind_by g m k) a b
lost_plain m g u k a b r e eu p =
    p ∙ ap (λ (x : List ℕ). lost_rule (segments_of x) a b) eu ∙ ap (λ (x : List Segment). lost_rule x a b) (sym (bounded_empty g (k + 1) (segments_of (drop (6 * k + 6) m)) e))

lost_any : (m g : List ℕ) (k a b : ℕ) (h : Option Met) → (length g ≡ 0 → ⊥) → h ≡ hit_of (find_from (k + 1) (bounded_from g (k + 1) (segments_of (drop (6 * (k + 1)) m))) a b) → lost_rule (behind_by g m k) a b ≡ is_some h
lost_any m g k a b h e p =
    let z : 6 * k + 6 ≡ 6 * (k + 1) = omega arith in
    ap (λ (x : List Segment). lost_rule x a b) (bounded_some g (k + 1) (segments_of (drop (6 * k + 6) m)) e)
    ∙ ap (λ (j : ℕ). lost_rule (bounded_from g (k + 1) (segments_of (drop j m))) a b) z
    ∙ lost_found (k + 1) (bounded_from g (k + 1) (segments_of (drop (6 * (k + 1)) m))) a b ∙ ap (λ (x : Option Met). is_some x) (sym p)

pub lost_hit : (m g : List ℕ) (k a b : ℕ) (h : Option Met) (f : Bool) → (length g ≡ 0 → ⊥) → h ≡ hit_of (find_from (k + 1) (bounded_from g (k + 1) (segments_of (drop (6 * (k + 1)) m))) a b) → f ≡ is_some h
    → f ≡ lost_rule (behind_by g m k) a b
lost_hit m g k a b h f e p q = q ∙ sym (lost_any m g k a b h e p)

-- ---- what a hit tells of the rest of the map
record FoundIn (i : ℕ) (xs : List Segment) (z : Met) (f : Found) : Type 0 where
  pub low : i ≤ z.place
  pub room : z.place - i < length xs
  pub others : behind_of f ≡ drop (z.place - i + 1) xs

module _ (a b : ℕ) where
  found_in : (i : ℕ) (xs : List Segment) (z : Met) → hit_of (find_from i xs a b) ≡ Some z → FoundIn i xs z (find_from i xs a b)
  unfolding find_from
  found_in i [] z p = absurd (no_hit z p)
  found_in i (x ∷ xs) z p = go (meets x a b) p (found_in (suc i) xs z)
    where
      go : (t : Bool) → hit_of (cond t (hit i x xs) (find_from (suc i) xs a b)) ≡ Some z
          → (hit_of (find_from (suc i) xs a b) ≡ Some z → FoundIn (suc i) xs z (find_from (suc i) xs a b))
          → FoundIn i (x ∷ xs) z (cond t (hit i x xs) (find_from (suc i) xs a b))
      go true q ih =
          let v : i ≡ z.place = ap (λ (h : Option Met). elim h [ None ↦ i | Some w ↦ w.place ]) q in
          let k : 1 ≡ z.place - i + 1 = omega (arith, v) in
          record { low = omega (arith, v); room = omega (arith, v); others = ap (λ (n : ℕ). drop n (x ∷ xs)) k }
      go false q ih =
          let w = ih q in
          let k : suc (z.place - suc i + 1) ≡ z.place - i + 1 = omega (arith, w.low) in
          record { low = omega (arith, w.low); room = omega (arith, w.low, w.room); others = w.others ∙ ap (λ (n : ℕ). drop n (x ∷ xs)) k }

drop_bounded : (g : List ℕ) (k i : ℕ) (xs : List Segment) → drop k (bounded_from g i xs) ≡ bounded_from g (i + k) (drop k xs)
unfolding bounded_from
drop_bounded g zero i xs = let z : i ≡ i + 0 = omega arith in ap (λ (j : ℕ). bounded_from g j xs) z
drop_bounded g (suc k) i [] = refl
drop_bounded g (suc k) i (x ∷ xs) = let z : suc i + k ≡ i + suc k = omega arith in drop_bounded g k (suc i) xs ∙ ap (λ (j : ℕ). bounded_from g j (drop k xs)) z

drop_by : (g : List ℕ) (k : ℕ) (xs : List Segment) → drop k (bounded_by g 0 xs) ≡ bounded_by g k (drop k xs)
unfolding bounded_by
drop_by [] k xs = refl
drop_by (x ∷ g) k xs = let z : 0 + k ≡ k = omega arith in drop_bounded (x ∷ g) k 0 xs ∙ ap (λ (j : ℕ). bounded_from (x ∷ g) j (drop k xs)) z

length_bounded : (g : List ℕ) (i : ℕ) (xs : List Segment) → length (bounded_from g i xs) ≡ length xs
unfolding bounded_from
length_bounded g i [] = refl
length_bounded g i (x ∷ xs) = ap suc (length_bounded g (suc i) xs)

length_by : (g : List ℕ) (i : ℕ) (xs : List Segment) → length (bounded_by g i xs) ≡ length xs
unfolding bounded_by
length_by [] i xs = refl
length_by (x ∷ g) i xs = length_bounded (x ∷ g) i xs

-- a map's segments from the k-th on, and how many numbers they take
segments_from_lem : (k : ℕ) (t : List ℕ) → drop k (segments_of t) ≡ segments_of (drop (6 * k) t)
segments_from_lem zero t = refl
segments_from_lem (suc k) t = go (leb 6 (length t)) refl (segments_from_lem k (drop 6 t))
  where
    go : (y : Bool) → leb 6 (length t) ≡ y → drop k (segments_of (drop 6 t)) ≡ segments_of (drop (6 * k) (drop 6 t)) → drop (suc k) (segments_of t) ≡ segments_of (drop (6 * suc k) t)
    go true y ih =
        let w : 6 + 6 * k ≡ 6 * suc k = omega arith in
        ap (drop (suc k)) (segments_cut t (leb-true 6 (length t) y)) ∙ ih ∙ ap segments_of (drop-drop (6 * k) 6 t ∙ ap (λ (j : ℕ). drop j t) w)
    go false y ih =
        let s : length t < 6 = leb-false 6 (length t) y in
        ap (drop (suc k)) (segments_short t s) ∙ sym (segments_short (drop (6 * suc k) t) (simp length-drop (omega (arith, s))))

segments_room : (k : ℕ) (t : List ℕ) → k < length (segments_of t) → 6 * k + 6 ≤ length t
segments_room k t h = go (leb 6 (length (drop (6 * k) t))) refl
  where
    l : length (drop k (segments_of t)) ≡ length (segments_of t) - k
    l = length-drop k (segments_of t)

    go : (y : Bool) → leb 6 (length (drop (6 * k) t)) ≡ y → 6 * k + 6 ≤ length t
    go true y = let e : length (drop (6 * k) t) ≡ length t - 6 * k = length-drop (6 * k) t in omega (arith, e, leb-true 6 (length (drop (6 * k) t)) y)
    go false y =
        let e : length (drop k (segments_of t)) ≡ 0 = ap length (segments_from_lem k t ∙ segments_short (drop (6 * k) t) (leb-false 6 (length (drop (6 * k) t)) y)) in
        absurd (omega (arith, h, e, l))

segments_count : (k : ℕ) (t : List ℕ) → 6 * k ≤ length t → k ≤ length (segments_of t)
segments_count zero t h = omega arith
segments_count (suc k) t h =
    let d : length (drop 6 t) ≡ length t - 6 = length-drop 6 t in
    let i : k ≤ length (segments_of (drop 6 t)) = segments_count k (drop 6 t) (omega (arith, d)) in
    rw (segments_cut t (omega arith)) (omega (arith, i))

pub by_room : (m g : List ℕ) (a b : ℕ) (h : Option Met) (z : Met) → h ≡ hit_of (find_hit (segments_by g m) a b) → h ≡ Some z → 6 * z.place + 6 ≤ length m
by_room m g a b h z p q =
    let w = found_in a b 0 (segments_by g m) z (sym p ∙ q) in
    segments_room z.place m (omega (arith, w.room, length_by g 0 (segments_of m)))

pub by_others : (m g : List ℕ) (a b : ℕ) (h : Option Met) (z : Met) → h ≡ hit_of (find_hit (segments_by g m) a b) → h ≡ Some z
    → behind_of (find_hit (segments_by g m) a b) ≡ behind_by g m z.place
by_others m g a b h z p q =
    let w = found_in a b 0 (segments_by g m) z (sym p ∙ q) in
    let k : z.place - 0 + 1 ≡ z.place + 1 = omega arith in
    let n : 6 * (z.place + 1) ≡ 6 * z.place + 6 = omega arith in
    w.others ∙ ap (λ (j : ℕ). drop j (segments_by g m)) k ∙ drop_by g (z.place + 1) (segments_of m)
    ∙ ap (bounded_by g (z.place + 1)) (segments_from_lem (z.place + 1) m ∙ ap (λ (j : ℕ). segments_of (drop j m)) n)

-- ---- the part of a caption that is lost
pub by_yes : (t r : Bool) (m g : List ℕ) (k a b : ℕ) → t ≡ true → r ≡ lost_rule (behind_by g m k) a b → r ≡ (t && lost_rule (behind_by g m k) a b)
by_yes t r m g k a b p e = rw p e

pub by_no : (t : Bool) (m g : List ℕ) (k a b : ℕ) → t ≡ false → false ≡ (t && lost_rule (behind_by g m k) a b)
by_no t m g k a b p = rw p

-- ---- the bounds that a survey writes empty no segment of a map within the limits
bounded_append : (g : List ℕ) (i : ℕ) (xs ys : List Segment) → bounded_from g i (xs ++ ys) ≡ bounded_from g i xs ++ bounded_from g (i + length xs) ys
unfolding bounded_from
bounded_append g i [] ys = let z : i ≡ i + 0 = omega arith in ap (λ (j : ℕ). bounded_from g j ys) z
bounded_append g i (x ∷ xs) ys =
    let z : suc i + length xs ≡ i + suc (length xs) = omega arith in
    ap (λ (l : List Segment). bounded g i x ∷ l) (bounded_append g (suc i) xs ys ∙ ap (λ (j : ℕ). bounded_from g (suc i) xs ++ bounded_from g j ys) z)

good_one : (a b q k o d : ℕ) → segment_bad a b q k o d ≡ false → q + d < 2 ^ 64
unfolding segment_bad end_bad
good_one a b q k o d e = go (ltb most_frame a) (ltb most_frame b) (ltb most_frame k) (ltb most_ticks (q + d)) refl e
  where
    go : (A B K Q : Bool) → ltb most_ticks (q + d) ≡ Q → cond A true (cond B true (cond K true (cond Q true (ltb most_ticks (o + d))))) ≡ false → q + d < 2 ^ 64
    go true B K Q eq p = absurd (true≢false p)
    go false true K Q eq p = absurd (true≢false p)
    go false false true Q eq p = absurd (true≢false p)
    go false false false true eq p = absurd (true≢false p)
    go false false false false eq p = omega (arith, ltb-false most_ticks (q + d) eq)

in_bounds : (x : Segment) (low high l h : ℕ) → source_of x + x.duration < 2 ^ 64 → low ≤ min (source_of x) l → max ((source_of x + x.duration) % 2 ^ 64) h ≤ high
    → within_parts (source_of x) x.duration low high ≡ true
unfolding within_parts
in_bounds x low high l h f p q = rw (le-leb low (source_of x) (omega arith), le-leb (source_of x + x.duration) high (omega arith)) refl

in_group : (g : List ℕ) (low high : ℕ) (xs : List Segment) (i : ℕ) → ((k : ℕ) → k < length xs → low_at g (i + k) ≡ low) → ((k : ℕ) → k < length xs → high_at g (i + k) ≡ high)
    → low ≤ low_of xs → high_of xs ≤ high → any_bad xs ≡ false → bounded_from g i xs ≡ xs
unfolding bounded_from low_of high_of any_bad
in_group g low high [] i l h a b e = refl
in_group g low high (x ∷ xs) i l h a b e =
    go (segment_bad x.source_start_frame x.source_end_frame x.source_start_dts x.frame_count x.output_start x.duration) refl e
    (in_group g low high xs (suc i) (λ k y. let z : suc i + k ≡ i + suc k = omega arith in ap (low_at g) z ∙ l (suc k) (omega arith)) (λ k y. let z : suc i + k ≡ i + suc k = omega arith in ap (high_at g) z ∙ h (suc k) (omega arith))
    (omega arith) (omega arith))
  where
    w0 : low_at g i ≡ low
    w0 = (let z : i ≡ i + 0 = omega arith in ap (low_at g) z) ∙ l 0 (omega arith)

    w1 : high_at g i ≡ high
    w1 = (let z : i ≡ i + 0 = omega arith in ap (high_at g) z) ∙ h 0 (omega arith)

    go : (t : Bool) → segment_bad x.source_start_frame x.source_end_frame x.source_start_dts x.frame_count x.output_start x.duration ≡ t
        → cond t true (any_bad xs) ≡ false → (any_bad xs ≡ false → bounded_from g (suc i) xs ≡ xs) → bounded g i x ∷ bounded_from g (suc i) xs ≡ x ∷ xs
    go true p q ih = absurd (true≢false q)
    go false p q ih =
        let f = good_one x.source_start_frame x.source_end_frame x.source_start_dts x.frame_count x.output_start x.duration p in
        let v : within_parts (source_of x) x.duration (low_at g i) (high_at g i) ≡ true = rw (w0, w1) (in_bounds x low high (low_of xs) (high_of xs) f a b) in
        ap (λ (y : Bool). cond y x (emptied x) ∷ bounded_from g (suc i) xs) v ∙ ap (λ (ys : List Segment). x ∷ ys) (ih q)

bad_append : (xs ys : List Segment) → any_bad (xs ++ ys) ≡ false → (any_bad xs ≡ false) × (any_bad ys ≡ false)
unfolding any_bad
bad_append [] ys e = (refl, e)
bad_append (x ∷ xs) ys e = go (segment_bad x.source_start_frame x.source_end_frame x.source_start_dts x.frame_count x.output_start x.duration) e (bad_append xs ys)
  where
    go : (t : Bool) → cond t true (any_bad (xs ++ ys)) ≡ false → (any_bad (xs ++ ys) ≡ false → (any_bad xs ≡ false) × (any_bad ys ≡ false)) → (cond t true (any_bad xs) ≡ false) × (any_bad ys ≡ false)
    go true q ih = absurd (true≢false q)
    go false q ih = ih q

sixteen : (t : List ℕ) → length (segments_of (take 96 t)) ≤ 16
sixteen t = go (leb (length (segments_of (take 96 t))) 16) refl
  where
    go : (y : Bool) → leb (length (segments_of (take 96 t))) 16 ≡ y → length (segments_of (take 96 t)) ≤ 16
    go true y = leb-true (length (segments_of (take 96 t))) 16 y
    go false y =
        let r : 6 * 16 + 6 ≤ length (take 96 t) = segments_room 16 (take 96 t) (leb-false (length (segments_of (take 96 t))) 16 y) in
        let l : length (take 96 t) ≤ 96 = front_few (take 96 t) t refl in
        absurd (omega (arith, r, l))

-- fewer than 16 segments in a group: the map ends with it
last_group : (t : List ℕ) → length t % 6 ≡ 0 → length (segments_of (take 96 t)) < 16 → segments_of (drop 96 t) ≡ []
last_group t w h = go (leb 96 (length t)) refl
  where
    go : (y : Bool) → leb 96 (length t) ≡ y → segments_of (drop 96 t) ≡ []
    go true y =
        let l : length (take 96 t) ≡ 96 = length-take-le 96 t (leb-true 96 (length t) y) in
        let n : 16 ≤ length (segments_of (take 96 t)) = segments_count 16 (take 96 t) (omega (arith, l)) in
        absurd (omega (arith, h, n))
    go false y = segments_short (drop 96 t) (simp length-drop (omega (arith, leb-false 96 (length t) y)))

module _ (g : List ℕ) where
  groups_all : (n p : ℕ) (t : List ℕ) → drop (2 * p) g ≡ groups_by n t → length t ≤ 96 * n → length t % 6 ≡ 0 → any_bad (segments_of t) ≡ false
      → bounded_from g (16 * p) (segments_of t) ≡ segments_of t
  unfolding groups_by bounded_from
  groups_all zero p t e l w b = let s : segments_of t ≡ [] = segments_short t (omega arith) in rw s refl
  groups_all (suc n) p t e l w b =
      let parts = segments_split 16 t in
      let good = bad_append (segments_of (take 96 t)) (segments_of (drop 96 t)) (ap any_bad parts ∙ b) in
      let d : length (drop 96 t) ≡ length t - 96 = length-drop 96 t in
      let e2 : drop (2 * suc p) g ≡ groups_by n (drop 96 t) = (let z : 2 * suc p ≡ 2 * p + 2 = omega arith in ap (λ (j : ℕ). drop j g) z) ∙ sym (drop-drop 2 (2 * p) g) ∙ ap (drop 2) e in
      let low : get_or g (2 * p) 0 ≡ low_of (segments_of (take 96 t)) = (let z : 2 * p ≡ 2 * p + 0 = omega arith in ap (λ (j : ℕ). get_or g j 0) z) ∙ sym (get_or-drop (2 * p) g 0 0) ∙ ap (λ (x : List ℕ). get_or x 0 0) e in
      let high : get_or g (2 * p + 1) 0 ≡ high_of (segments_of (take 96 t)) = sym (get_or-drop (2 * p) g 1 0) ∙ ap (λ (x : List ℕ). get_or x 1 0) e in
      let few = sixteen t in
      let first : bounded_from g (16 * p) (segments_of (take 96 t)) ≡ segments_of (take 96 t) =
      in_group g (low_of (segments_of (take 96 t))) (high_of (segments_of (take 96 t))) (segments_of (take 96 t)) (16 * p)
      (λ k y. (let z : (16 * p + k) / 16 ≡ p = omega (arith, y, few) in ap (λ (j : ℕ). get_or g (2 * j) 0) z) ∙ low)
      (λ k y. (let z : (16 * p + k) / 16 ≡ p = omega (arith, y, few) in ap (λ (j : ℕ). get_or g (2 * j + 1) 0) z) ∙ high)
      (omega arith) (omega arith) good.0 in
      sym (ap (bounded_from g (16 * p)) parts) ∙ bounded_append g (16 * p) (segments_of (take 96 t)) (segments_of (drop 96 t))
      ∙ ap (λ (x : List Segment). x ++ bounded_from g (16 * p + length (segments_of (take 96 t))) (segments_of (drop 96 t))) first
      ∙ ap (λ (x : List Segment). segments_of (take 96 t) ++ x) (rest (leb 16 (length (segments_of (take 96 t)))) refl few (groups_all n (suc p) (drop 96 t) e2 (omega (arith, d)) (rw d (omega (arith, w))) good.1))
      ∙ parts
    where
      rest : (y : Bool) → leb 16 (length (segments_of (take 96 t))) ≡ y → length (segments_of (take 96 t)) ≤ 16
          → bounded_from g (16 * suc p) (segments_of (drop 96 t)) ≡ segments_of (drop 96 t)
          → bounded_from g (16 * p + length (segments_of (take 96 t))) (segments_of (drop 96 t)) ≡ segments_of (drop 96 t)
      rest true y few ih =
          let z : 16 * p + length (segments_of (take 96 t)) ≡ 16 * suc p = omega (arith, leb-true 16 (length (segments_of (take 96 t))) y, few) in
          ap (λ (j : ℕ). bounded_from g j (segments_of (drop 96 t))) z ∙ ih
      rest false y few ih =
          let s : segments_of (drop 96 t) ≡ [] = last_group t w (leb-false 16 (length (segments_of (take 96 t))) y) in
          rw s refl

whole_map : (m : List ℕ) → map_bad m ≡ false → length m % 6 ≡ 0
unfolding map_bad
whole_map m e = go (eqb (length m % 6) 0) refl e
  where
    go : (t : Bool) → eqb (length m % 6) 0 ≡ t → cond t (cond (ltb (6 * most_segments) (length m)) true (any_bad (segments_of m))) true ≡ false → length m % 6 ≡ 0
    go true p q = eqb-true (length m % 6) 0 p
    go false p q = absurd (true≢false q)

pub groups_right : (m : List ℕ) → map_bad m ≡ false → segments_by (groups_of m) m ≡ segments_of m
unfolding groups_of
groups_right m e = go (length (groups_of m)) refl
  where
    go : (n : ℕ) → length (groups_of m) ≡ n → segments_by (groups_of m) m ≡ segments_of m
    go zero z = bounded_empty (groups_of m) 0 (segments_of m) z
    go (suc n) z =
        bounded_some (groups_of m) 0 (segments_of m) (λ y. absurd (omega (arith, y, z)))
        ∙ groups_all (groups_of m) (group_count (length m)) 0 m refl (omega arith) (whole_map m e) (any_good m e)

-- ---- the decision by a hit that the code found
pub by_kept : (c : Config) (m g : List ℕ) (S E a b : ℕ) (h : Option Met) (z : Met) (f k : Bool) (r : Retimed) → a ≡ ticks_within c.kind c.timescale S → b ≡ ticks_within c.kind c.timescale E
    → h ≡ hit_of (find_hit (segments_by g m) a b) → h ≡ Some z → f ≡ end_bad z.source z.duration → f ≡ false → k ≡ end_bad z.output z.duration → k ≡ false
    → r ≡ retimed_by (start_within c.kind c.timescale) (end_within c.kind c.timescale) a b (lost_rule (behind_by g m z.place) a b) z
    → Kept r ≡ decide_in c (segments_by g m) S E
by_kept c m g S E a b h z f k r ea eb p q ef tf ek tk er = decide_kept c (segments_by g m) S E a b ea eb (behind_by g m z.place) h z f k r p q ef tf ek tk er (by_others m g a b h z p q)
