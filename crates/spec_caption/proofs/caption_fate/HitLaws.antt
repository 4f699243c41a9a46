-- Laws of the hit.
use mathlib.Core.Path.{◌≡◌, refl, sym, ap, ◌∙◌}
use mathlib.Core.Bool.{Bool, true, false, cond, ◌&&◌}
use mathlib.Core.List.{List, [], ◌∷◌}
use Prim.Native.Nat.{ℕ, suc, ◌+◌, ◌*◌, ◌-◌, ◌≤◌, ◌<◌}
use native.Mathlib.Omega.{arith}
use native.Mathlib.Numerals.{add-one}
use borrow.Author.Tests.{lt-ltb, le-ltb, ltb-true, ltb-false}
use lib.Dec.{ltb}
use lib.ListN.{length, drop, get_or, length-drop}
use lib.Seq.{drop-drop}
use Rattle.std.specs.Prelude.{Option, Some, None, is_some}
use Rattle.spec_base.proofs.base.Laws.{and_left, and_right, and_false, and_true}
use Rattle.spec_map.specs.declared.segment.Segment.{Segment}
use Rattle.spec_map.specs.segment.Segment.{segment, segments_of}
use Rattle.spec_map.proofs.segment.SegmentLaws.{segments_cut, segments_short}
use Rattle.spec_caption.specs.declared.caption_fate.Met.{Met}
use Rattle.spec_caption.specs.caption_fate.Hit.{meets_parts, meets, Found, miss, hit, find_from, find_hit, met_of, hit_of, met_at}
use Rattle.spec_caption.specs.caption_fate.Lost.{lost_later, lost_rule}

-- ---- a segment that meets
ltb_shift : (a q d : ℕ) → q ≤ a → ltb (a - q) d ≡ ltb a (q + d)
ltb_shift a q d h = go (ltb (a - q) d) refl
  where
    go : (t : Bool) → ltb (a - q) d ≡ t → t ≡ ltb a (q + d)
    go true e = sym (lt-ltb a (q + d) (omega (arith, ltb-true (a - q) d e)))
    go false e = sym (le-ltb a (q + d) (omega (arith, ltb-false (a - q) d e)))

module _ (q d a b : ℕ) where
  pub meets_1 : d ≡ 0 → false ≡ meets_parts q d a b
  unfolding meets_parts
  meets_1 e = rw (le-ltb 0 d (omega arith))

  pub meets_2 : (d ≡ 0 → ⊥) → b ≤ q → false ≡ meets_parts q d a b
  unfolding meets_parts
  meets_2 n h = rw (lt-ltb 0 d (omega arith), le-ltb q b h) (and_false (ltb a (q + d)))

  pub meets_3 : (d ≡ 0 → ⊥) → q < b → a < q → true ≡ meets_parts q d a b
  unfolding meets_parts
  meets_3 n h k = rw (lt-ltb 0 d (omega arith), lt-ltb q b h, lt-ltb a (q + d) (omega arith))

  pub meets_4 : (d ≡ 0 → ⊥) → q < b → q ≤ a → ltb (a - q) d ≡ meets_parts q d a b
  unfolding meets_parts
  meets_4 n h k = rw (lt-ltb 0 d (omega arith), lt-ltb q b h) (ltb_shift a q d k ∙ sym (and_true (ltb a (q + d))))

  pub meets_long : meets_parts q d a b ≡ true → 0 < d
  unfolding meets_parts
  meets_long e = ltb-true 0 d (and_left (ltb 0 d) (ltb a (q + d) && ltb q b) e)

  pub meets_later : meets_parts q d a b ≡ true → a < q + d
  unfolding meets_parts
  meets_later e = ltb-true a (q + d) (and_left (ltb a (q + d)) (ltb q b) (and_right (ltb 0 d) (ltb a (q + d) && ltb q b) e))

  pub meets_sooner : meets_parts q d a b ≡ true → q < b
  unfolding meets_parts
  meets_sooner e = ltb-true q b (and_right (ltb a (q + d)) (ltb q b) (and_right (ltb 0 d) (ltb a (q + d) && ltb q b) e))

-- ---- a hit as numbers
pub met_told : (t : List ℕ) (i q o d : ℕ) → q ≡ get_or t 2 0 → o ≡ get_or t 4 0 → d ≡ get_or t 5 0
    → ◌≡◌ {A = Met} (record { place = i; source = q; output = o; duration = d }) (met_at i t)
unfolding met_at
met_told t i q o d eq eo ed = rw (eq, eo, ed)

abbrev pub head_of : List ℕ → Segment
head_of t = segment (get_or t 0 0) (get_or t 1 0) (get_or t 2 0) (get_or t 3 0) (get_or t 4 0) (get_or t 5 0)

pub met_is : (i : ℕ) (t : List ℕ) → met_at i t ≡ met_of i (head_of t)
unfolding met_at
met_is i t = refl

-- ---- the loop over the map: what is left of the search, from the place i on, is the whole answer
pub find_cut : (t : List ℕ) (i a b q d : ℕ) (f : Bool) → 6 ≤ length t → q ≡ get_or t 2 0 → d ≡ get_or t 5 0 → f ≡ meets_parts q d a b
    → find_from i (segments_of t) a b ≡ cond f (hit i (head_of t) (segments_of (drop 6 t))) (find_from (suc i) (segments_of (drop 6 t)) a b)
unfolding find_from
find_cut t i a b q d f h eq ed ef = rw (segments_cut t h, ef, eq, ed)

pub hit_again : (m t u : List ℕ) (i a b q d : ℕ) (f : Bool) → find_hit (segments_of m) a b ≡ find_from i (segments_of t) a b → 6 ≤ length t → q ≡ get_or t 2 0 → d ≡ get_or t 5 0 → f ≡ meets_parts q d a b → f ≡ false → u ≡ drop 6 t
    → find_hit (segments_of m) a b ≡ find_from (i + 1) (segments_of u) a b
hit_again m t u i a b q d f inv h eq ed ef p eu =
    rw add-one
    (inv ∙ find_cut t i a b q d f h eq ed ef ∙ ap (λ (x : Bool). cond x (hit i (head_of t) (segments_of (drop 6 t))) (find_from (suc i) (segments_of (drop 6 t)) a b)) p
    ∙ ap (λ (x : List ℕ). find_from (suc i) (segments_of x) a b) (sym eu))

pub hit_found : (m t : List ℕ) (i a b q d : ℕ) (f : Bool) (x : Met) → find_hit (segments_of m) a b ≡ find_from i (segments_of t) a b → 6 ≤ length t → q ≡ get_or t 2 0 → d ≡ get_or t 5 0 → f ≡ meets_parts q d a b → f ≡ true → x ≡ met_at i t
    → Some x ≡ hit_of (find_hit (segments_of m) a b)
hit_found m t i a b q d f x inv h eq ed ef p ex =
    sym
    (ap hit_of (inv ∙ find_cut t i a b q d f h eq ed ef ∙ ap (λ (x : Bool). cond x (hit i (head_of t) (segments_of (drop 6 t))) (find_from (suc i) (segments_of (drop 6 t)) a b)) p)
    ∙ ap Some (sym (met_is i t)) ∙ ap Some (sym ex))

pub hit_none : (m t : List ℕ) (i a b : ℕ) → find_hit (segments_of m) a b ≡ find_from i (segments_of t) a b → length t < 6 → None ≡ hit_of (find_hit (segments_of m) a b)
unfolding find_from
hit_none m t i a b inv h = sym (ap hit_of (inv ∙ ap (λ (x : List Segment). find_from i x a b) (segments_short t h)))

-- ---- the part-lost rule: a segment behind is met where a search there finds one
pub lost_found : (i : ℕ) (xs : List Segment) (a b : ℕ) → lost_later xs a b ≡ is_some (hit_of (find_from i xs a b))
unfolding lost_later find_from
lost_found i [] a b = refl
lost_found i (x ∷ xs) a b = go (meets x a b) (lost_found (suc i) xs a b)
  where
    go : (t : Bool) → lost_later xs a b ≡ is_some (hit_of (find_from (suc i) xs a b)) → cond t true (lost_later xs a b) ≡ is_some (hit_of (cond t (hit i x xs) (find_from (suc i) xs a b)))
    go true ih = refl
    go false ih = ih

pub lost_some : (xs : List Segment) (a b : ℕ) (h : Option Met) (f : Bool) → h ≡ hit_of (find_hit xs a b) → f ≡ is_some h → f ≡ lost_rule xs a b
lost_some xs a b h f p q = q ∙ ap (λ (x : Option Met). is_some x) p ∙ sym (lost_found 0 xs a b)

-- ---- the segments behind a hit, by its place
abbrev pub behind_of : Found → List Segment
behind_of miss = []
behind_of (hit i x xs) = xs

pub record Behind (i : ℕ) (t : List ℕ) (z : Met) (f : Found) : Type 0 where
  pub low : i ≤ z.place
  pub room : 6 * (z.place - i) + 6 ≤ length t
  pub others : behind_of f ≡ segments_of (drop (6 * (z.place - i) + 6) t)

pub no_hit : (z : Met) → None ≡ Some z → ⊥
no_hit z p = let w : ◌≡◌ {A = ℕ} 0 1 = ap (λ (h : Option Met). elim h [ None ↦ 0 | Some v ↦ 1 ]) p in omega arith

module _ (a b : ℕ) where
  pub found_behind : (i : ℕ) (t : List ℕ) (z : Met) → hit_of (find_from i (segments_of t) a b) ≡ Some z → Behind i t z (find_from i (segments_of t) a b)
  unfolding find_from segments_of
  found_behind i [] z p = absurd (no_hit z p)
  found_behind i (t0 ∷ []) z p = absurd (no_hit z p)
  found_behind i (t0 ∷ t1 ∷ []) z p = absurd (no_hit z p)
  found_behind i (t0 ∷ t1 ∷ t2 ∷ []) z p = absurd (no_hit z p)
  found_behind i (t0 ∷ t1 ∷ t2 ∷ t3 ∷ []) z p = absurd (no_hit z p)
  found_behind i (t0 ∷ t1 ∷ t2 ∷ t3 ∷ t4 ∷ []) z p = absurd (no_hit z p)
  found_behind i (t0 ∷ t1 ∷ t2 ∷ t3 ∷ t4 ∷ t5 ∷ r) z p = go (meets x a b) refl p (found_behind (suc i) r z)
    where
      x : Segment
      x = segment t0 t1 t2 t3 t4 t5

      l : List ℕ
      l = t0 ∷ t1 ∷ t2 ∷ t3 ∷ t4 ∷ t5 ∷ r

      go : (t : Bool) → meets x a b ≡ t → hit_of (cond t (hit i x (segments_of r)) (find_from (suc i) (segments_of r) a b)) ≡ Some z
          → (hit_of (find_from (suc i) (segments_of r) a b) ≡ Some z → Behind (suc i) r z (find_from (suc i) (segments_of r) a b))
          → Behind i l z (cond t (hit i x (segments_of r)) (find_from (suc i) (segments_of r) a b))
      go true e q ih =
          let v : i ≡ z.place = ap (λ (h : Option Met). elim h [ None ↦ i | Some v ↦ v.place ]) q in
          let k : 6 ≡ 6 * (z.place - i) + 6 = omega (arith, v) in
          record { low = omega (arith, v); room = omega (arith, v); others = ap (λ (n : ℕ). segments_of (drop n l)) k }
      go false e q ih =
          let w = ih q in
          let k : 6 + (6 * (z.place - suc i) + 6) ≡ 6 * (z.place - i) + 6 = omega (arith, w.low) in
          record {
            low = omega (arith, w.low);
            room = omega (arith, w.low, w.room);
            others = w.others ∙ ap segments_of (drop-drop (6 * (z.place - suc i) + 6) 6 l ∙ ap (λ (n : ℕ). drop n l) k);
          }

-- what a hit of the whole map tells of the rest of it
pub hit_room : (m : List ℕ) (a b : ℕ) (h : Option Met) (z : Met) → h ≡ hit_of (find_hit (segments_of m) a b) → h ≡ Some z → 6 * z.place + 6 ≤ length m
hit_room m a b h z p q = let w = found_behind a b 0 m z (sym p ∙ q) in omega (arith, w.room)

pub hit_others : (m : List ℕ) (a b : ℕ) (h : Option Met) (z : Met) → h ≡ hit_of (find_hit (segments_of m) a b) → h ≡ Some z
    → behind_of (find_hit (segments_of m) a b) ≡ segments_of (drop (6 * z.place + 6) m)
hit_others m a b h z p q =
    let w = found_behind a b 0 m z (sym p ∙ q) in
    let k : 6 * (z.place - 0) + 6 ≡ 6 * z.place + 6 = omega arith in
    w.others ∙ ap (λ (n : ℕ). segments_of (drop n m)) k

-- the place stays below the length of the map
pub hit_place : (m t u : List ℕ) (i : ℕ) → i + length t ≤ length m → 6 ≤ length t → u ≡ drop 6 t → i + 1 + length u ≤ length m
hit_place m t u i inv h e = let n : length u ≡ length t - 6 = ap length e ∙ length-drop 6 t in omega arith
