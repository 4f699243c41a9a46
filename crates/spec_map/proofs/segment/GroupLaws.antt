-- Laws of a map in groups, and of small numbers.
use mathlib.Core.Path.{◌≡◌, refl, sym, ap, ◌∙◌}
use mathlib.Core.Bool.{Bool, true, false, cond, ◌&&◌, not, true≢false}
use mathlib.Core.List.{List, [], ◌∷◌, ◌++◌, append_assoc}
use Prim.Native.Nat.{ℕ, zero, suc, ◌+◌, ◌-◌, ◌*◌, ◌/◌, ◌%◌, ◌^◌, ◌≤◌, ◌<◌, min, max}
use native.Mathlib.Omega.{arith}
use borrow.Author.Tests.{lt-ltb, le-ltb, eq-eqb, ne_eqb, ltb-true, ltb-false, leb-true, leb-false, le-leb, lt-leb}
use lib.Dec.{ltb, leb, eqb}
use lib.ListN.{length, take, drop, get_or, length-drop, length-append, length-take}
use lib.Seq.{length-take-le}
use Rattle.spec_base.specs.base.Limits.{most_frame, most_ticks, most_segments}
use Rattle.spec_base.specs.base.Put.{put, put_at, placed_at, place_after}
use Rattle.spec_base.proofs.base.Laws.{and_left, and_right, and_false}
use Rattle.spec_base.proofs.base.PutLaws.{put_nil, put_at_zero, put_at_nil, at_yes, after_yes, then_put, put_at_front, length_put}
use Rattle.spec_map.specs.declared.segment.Segment.{Segment}
use Rattle.spec_map.specs.declared.segment.Surveyed.{Surveyed}
use Rattle.spec_map.specs.segment.Segment.{segment, segments_of, end_bad, segment_bad, any_bad, map_bad}
use Rattle.spec_map.specs.segment.Groups.{low_of, high_of, groups_by, group_count, groups_of, segment_large, any_large, surveyable, groups_in, small_in, Surveys}
use Rattle.spec_map.proofs.segment.SegmentLaws.{segments_cut, segments_short, frame_tells, sum_tells, or_or}

-- ---- a map cut behind a whole number of segments
split_at : (k n : ℕ) (t : List ℕ) → n ≡ 6 * k → segments_of (take n t) ++ segments_of (drop n t) ≡ segments_of t
unfolding segments_of
split_at zero n t p = let z : n ≡ 0 = omega arith in rw z refl
split_at (suc k) n t p = let z : n ≡ suc (suc (suc (suc (suc (suc (6 * k)))))) = omega arith in rw z (six t (λ r. split_at k (6 * k) r refl))
  where
    six : (s : List ℕ) → ((r : List ℕ) → segments_of (take (6 * k) r) ++ segments_of (drop (6 * k) r) ≡ segments_of r) → segments_of (take (suc (suc (suc (suc (suc (suc (6 * k))))))) s) ++ segments_of (drop (suc (suc (suc (suc (suc (suc (6 * k))))))) s) ≡ segments_of s
    six [] ih = refl
    six (a ∷ []) ih = refl
    six (a ∷ b ∷ []) ih = refl
    six (a ∷ b ∷ c ∷ []) ih = refl
    six (a ∷ b ∷ c ∷ d ∷ []) ih = refl
    six (a ∷ b ∷ c ∷ d ∷ e ∷ []) ih = refl
    six (a ∷ b ∷ c ∷ d ∷ e ∷ f ∷ r) ih = ap (λ (x : List Segment). segment a b c d e f ∷ x) (ih r)

pub segments_split : (k : ℕ) (t : List ℕ) → segments_of (take (6 * k) t) ++ segments_of (drop (6 * k) t) ≡ segments_of t
segments_split k t = split_at k (6 * k) t refl

-- ---- a group, segment by segment
pub low_more : (t : List ℕ) (v q : ℕ) → 6 ≤ length t → q ≡ get_or t 2 0 → min (min v q) (low_of (segments_of (drop 6 t))) ≡ min v (low_of (segments_of t))
unfolding low_of
low_more t v q h e = rw (segments_cut t h, e) (omega arith)

pub high_more : (t : List ℕ) (v e : ℕ) → 6 ≤ length t → e ≡ (get_or t 2 0 + get_or t 5 0) % 2 ^ 64 → max (max v e) (high_of (segments_of (drop 6 t))) ≡ max v (high_of (segments_of t))
unfolding high_of
high_more t v e h p = rw (segments_cut t h, p) (omega arith)

-- ---- small numbers: a sum of quotients is 0 where each number is small
tick_large : (a : ℕ) → ltb 0 (a / 4503599627370496) ≡ leb 4503599627370496 a
tick_large a = go (leb 4503599627370496 a) refl
  where
    go : (t : Bool) → leb 4503599627370496 a ≡ t → ltb 0 (a / 4503599627370496) ≡ t
    go true q = lt-ltb 0 (a / 4503599627370496) (omega (arith, leb-true 4503599627370496 a q))
    go false q = le-ltb 0 (a / 4503599627370496) (omega (arith, leb-false 4503599627370496 a q))

pub large_tells : (a b q k o d : ℕ)
    → ltb 0 (a / 4294967296 + b / 4294967296 + k / 4294967296 + q / 4503599627370496 + o / 4503599627370496 + d / 4503599627370496) ≡ segment_large a b q k o d
unfolding segment_large
large_tells a b q k o d =
    let A = a / 4294967296 in
    let B = b / 4294967296 in
    let K = k / 4294967296 in
    let Q = q / 4503599627370496 in
    let O = o / 4503599627370496 in
    let D = d / 4503599627370496 in
    sum_tells (A + B + K + Q + O) D
    ∙ ap (λ (t : Bool). cond t true (ltb 0 D)) (sum_tells (A + B + K + Q) O
    ∙ ap (λ (t : Bool). cond t true (ltb 0 O)) (sum_tells (A + B + K) Q
    ∙ ap (λ (t : Bool). cond t true (ltb 0 Q)) (sum_tells (A + B) K
    ∙ ap (λ (t : Bool). cond t true (ltb 0 K)) (sum_tells A B))))
    ∙ all (ltb 0 A) (ltb 0 B) (ltb 0 K) (ltb 0 Q) (ltb 0 O) (ltb 0 D)
    ∙ rw (frame_tells a, frame_tells b, frame_tells k, tick_large q, tick_large o, tick_large d) refl
  where
    all : (r s t u v w : Bool) → cond (cond (cond (cond (cond r true s) true t) true u) true v) true w ≡ cond r true (cond s true (cond t true (cond u true (cond v true w))))
    all true s t u v w = refl
    all false true t u v w = refl
    all false false true u v w = refl
    all false false false true v w = refl
    all false false false false v w = refl

large_cut : (t : List ℕ) → 6 ≤ length t
    → any_large (segments_of t)
    ≡ cond (segment_large (get_or t 0 0) (get_or t 1 0) (get_or t 2 0) (get_or t 3 0) (get_or t 4 0) (get_or t 5 0)) true (any_large (segments_of (drop 6 t)))
unfolding any_large
large_cut t h = ap any_large (segments_cut t h)

large_append : (xs ys : List Segment) → any_large (xs ++ ys) ≡ cond (any_large xs) true (any_large ys)
unfolding any_large
large_append [] ys = refl
large_append (x ∷ xs) ys = ap (λ (y : Bool). cond (segment_large x.source_start_frame x.source_end_frame x.source_start_dts x.frame_count x.output_start x.duration) true y) (large_append xs ys) ∙ sym (or_or (segment_large x.source_start_frame x.source_end_frame x.source_start_dts x.frame_count x.output_start x.duration) (any_large xs) (any_large ys))

-- ---- the loop over the segments of a group: what is left of it makes the whole answer
pub record GroupLeft (row t : List ℕ) (low high excess : ℕ) : Type 0 where
  pub few : length t ≤ 96
  pub low_fits : low ≤ 18446744073709551615
  pub small : excess ≤ 2 ^ 34 * (96 - length t)
  pub starts : min low (low_of (segments_of t)) ≡ low_of (segments_of row)
  pub ends : max high (high_of (segments_of t)) ≡ high_of (segments_of row)
  pub large : cond (ltb 0 excess) true (any_large (segments_of t)) ≡ any_large (segments_of row)

low_within : (xs : List Segment) → low_of xs ≤ 18446744073709551615
unfolding low_of
low_within [] = omega arith
low_within (x ∷ xs) = omega (arith, low_within xs)

pub group_start : (row : List ℕ) → length row ≤ 96 → GroupLeft row row 18446744073709551615 0 0
group_start row h = record { few = h; low_fits = omega arith; small = omega arith; starts = omega (arith, low_within (segments_of row)); ends = omega arith; large = refl }

pub group_sum : (row t : List ℕ) (low high n x : ℕ) → GroupLeft row t low high n → 6 ≤ length t → x ≤ 2 ^ 34 → n + x < 2 ^ 64
group_sum row t low high n x g h k = omega (arith, g.few, g.small)

pub group_again : (row t u : List ℕ) (low low' high high' e n x : ℕ) → GroupLeft row t low high n → 6 ≤ length t
    → low' ≡ min low (get_or t 2 0) → e ≡ (get_or t 2 0 + get_or t 5 0) % 2 ^ 64 → high' ≡ max high e
    → ltb 0 x ≡ segment_large (get_or t 0 0) (get_or t 1 0) (get_or t 2 0) (get_or t 3 0) (get_or t 4 0) (get_or t 5 0) → x ≤ 2 ^ 34 → u ≡ drop 6 t
    → GroupLeft row u low' high' (n + x)
group_again row t u low low' high high' e n x g h el ee eh ex k eu =
    let l : length u ≡ length t - 6 = ap length eu ∙ length-drop 6 t in
    record {
      few = omega (arith, l, g.few);
      low_fits = omega (arith, el, g.low_fits);
      small = omega (arith, l, g.few, g.small);
      starts = rw (el, eu) (low_more t low (get_or t 2 0) h refl ∙ g.starts);
      ends = rw (eh, eu) (high_more t high e h ee ∙ g.ends);
      large =
          rw eu
          (ap (λ (y : Bool). cond y true (any_large (segments_of (drop 6 t)))) (sum_tells n x)
          ∙ or_or (ltb 0 n) (ltb 0 x) (any_large (segments_of (drop 6 t)))
          ∙ ap (λ (y : Bool). cond (ltb 0 n) true (cond y true (any_large (segments_of (drop 6 t))))) ex
          ∙ ap (λ (y : Bool). cond (ltb 0 n) true y) (sym (large_cut t h)) ∙ g.large);
    }

pub group_low : (row t : List ℕ) (low high n : ℕ) → GroupLeft row t low high n → length t < 6 → low ≡ low_of (segments_of row)
unfolding low_of
group_low row t low high n g h = let z : min low (low_of (segments_of t)) ≡ low = rw (segments_short t h) (omega (arith, g.low_fits)) in sym z ∙ g.starts

pub group_high : (row t : List ℕ) (low high n : ℕ) → GroupLeft row t low high n → length t < 6 → high ≡ high_of (segments_of row)
unfolding high_of
group_high row t low high n g h = let z : max high (high_of (segments_of t)) ≡ high = rw (segments_short t h) (omega arith) in sym z ∙ g.ends

pub group_few : (row t : List ℕ) (low high n : ℕ) → GroupLeft row t low high n → n ≤ 2 ^ 41
group_few row t low high n g = omega (arith, g.few, g.small)

pub group_large : (row t : List ℕ) (low high n : ℕ) → GroupLeft row t low high n → length t < 6 → ltb 0 n ≡ any_large (segments_of row)
unfolding any_large
group_large row t low high n g h = go (ltb 0 n) refl
  where
    go : (y : Bool) → ltb 0 n ≡ y → ltb 0 n ≡ any_large (segments_of row)
    go true p = p ∙ sym (ap (λ (z : Bool). cond z true (any_large (segments_of t))) p) ∙ g.large
    go false p = p ∙ sym (ap any_large (segments_short t h)) ∙ sym (ap (λ (z : Bool). cond z true (any_large (segments_of t))) p) ∙ g.large

-- ---- the loop over the groups: m the map, t what is left of it, of which n numbers are written to g
pub record Survey (m t : List ℕ) (n excess : ℕ) (g₀ g : List ℕ) : Type 0 where
  pub whole : length t % 6 ≡ 0
  pub few : length t ≤ 6144
  pub room : n + 2 * group_count (length t) ≤ 128
  pub lent : 128 ≤ length g
  pub same : length g ≡ length g₀
  pub small : excess ≤ 2 ^ 40 * n
  pub count : n + length (groups_of t) ≡ length (groups_of m)
  pub written : put_at n (groups_of t) g ≡ put (groups_of m) g₀
  pub large : cond (ltb 0 excess) true (any_large (segments_of t)) ≡ any_large (segments_of m)

pub survey_start : (m g : List ℕ) (r : ℕ) → r ≡ length m % 6 → r ≡ 0 → length m ≤ 6 * most_segments → 128 ≤ length g → Survey m m 0 0 g g
survey_start m g r e z h l =
    record {
      whole = sym e ∙ z;
      few = h;
      room = omega arith;
      lent = l;
      same = refl;
      small = omega arith;
      count = omega arith;
      written = put_at_zero (groups_of m) g;
      large = refl;
    }

groups_cut : (t : List ℕ) → 0 < length t → groups_of t ≡ low_of (segments_of (take 96 t)) ∷ high_of (segments_of (take 96 t)) ∷ groups_of (drop 96 t)
unfolding groups_of groups_by
groups_cut t h =
    let n : group_count (length t) ≡ suc (group_count (length (drop 96 t))) = rw (length-drop 96 t) (omega arith) in
    ap (λ (k : ℕ). groups_by k t) n

length_take_most : (n : ℕ) (l : List ℕ) → length (take n l) ≤ n
length_take_most n l = simp length-take (omega arith)

put_on : (n : ℕ) (v w g : List ℕ) → n + length v ≤ length g → put_at (n + length v) w (put_at n v g) ≡ put_at n (v ++ w) g
put_on n v w g h =
    let l : length (take n g) ≡ n = length-take-le n g (omega arith) in
    let k : n + length v ≡ length (take n g ++ v) = simp length-append (omega (arith, l)) in
    then_put (n + length v) (take n g ++ v) w g (put_at n v g) _ (put_at_front v g n (omega arith)) k refl
    ∙ ap (λ (x : List ℕ). put x g) (simp append_assoc) ∙ sym (put_at_front (v ++ w) g n (omega arith))

pub front_few : (f t : List ℕ) → f ≡ take 96 t → length f ≤ 96
front_few f t e = rw e (length_take_most 96 t)

-- one group more
survey_more : (m t u g₀ g g' : List ℕ) (n n' excess low high x : ℕ) → Survey m t n excess g₀ g → 0 < length t
    → low ≡ low_of (segments_of (take 96 t)) → high ≡ high_of (segments_of (take 96 t)) → ltb 0 x ≡ any_large (segments_of (take 96 t)) → x ≤ 2 ^ 41
    → n' ≡ place_after n (low ∷ high ∷ []) g → g' ≡ placed_at n (low ∷ high ∷ []) g → u ≡ drop 96 t
    → Survey m u n' (excess + x) g₀ g'
survey_more m t u g₀ g g' n n' excess low high x s h el eh ex k en eg eu =
    let l : length u ≡ length t - 96 = ap length eu ∙ length-drop 96 t in
    let c : group_count (length t) ≡ suc (group_count (length u)) = rw l (omega arith) in
    let f : n + 2 ≤ length g = omega (arith, s.room, s.lent, c) in
    let en2 : n' ≡ n + 2 = en ∙ after_yes n (low ∷ high ∷ []) g f in
    let eg2 : g' ≡ put_at n (low ∷ high ∷ []) g = eg ∙ at_yes n (low ∷ high ∷ []) g f in
    let sg : length g' ≡ length g = rw (eg2, put_at_front (low ∷ high ∷ []) g n (omega arith)) (length_put _ g (simp length-append (omega (arith, f, length-take-le n g (omega arith))))) in
    let q : groups_of t ≡ low ∷ high ∷ groups_of u = rw (el, eh, eu) (groups_cut t h) in
    record {
      whole = rw l (omega (arith, s.whole));
      few = omega (arith, l, s.few);
      room = omega (arith, s.room, c, en2);
      lent = omega (arith, s.lent, sg);
      same = sg ∙ s.same;
      small = omega (arith, s.small, en2);
      count = rw en2 (let w : length (groups_of t) ≡ 2 + length (groups_of u) = rw q (omega arith) in omega (arith, s.count, w));
      written = rw (en2, eg2) (put_on n (low ∷ high ∷ []) (groups_of u) g f ∙ ap (λ (y : List ℕ). put_at n y g) (sym q) ∙ s.written);
      large =
          ap (λ (y : Bool). cond y true (any_large (segments_of u))) (sum_tells excess x)
          ∙ or_or (ltb 0 excess) (ltb 0 x) (any_large (segments_of u))
          ∙ ap (λ (y : Bool). cond (ltb 0 excess) true (cond y true (any_large (segments_of u)))) ex
          ∙ ap (λ (y : List ℕ). cond (ltb 0 excess) true (cond (any_large (segments_of (take 96 t))) true (any_large (segments_of y)))) eu
          ∙ ap (λ (y : Bool). cond (ltb 0 excess) true y) (sym (large_append (segments_of (take 96 t)) (segments_of (drop 96 t))) ∙ ap any_large (segments_split 16 t))
          ∙ s.large;
    }

pub survey_again : (m t f u g₀ g g' : List ℕ) (n n' excess low high x : ℕ) → Survey m t n excess g₀ g → 0 < length t → f ≡ take 96 t
    → low ≡ low_of (segments_of f) → high ≡ high_of (segments_of f) → ltb 0 x ≡ any_large (segments_of f) → x ≤ 2 ^ 41
    → n' ≡ place_after n (low ∷ high ∷ []) g → g' ≡ placed_at n (low ∷ high ∷ []) g → u ≡ drop 96 t
    → Survey m u n' (excess + x) g₀ g'
survey_again m t f u g₀ g g' n n' excess low high x s h ef el eh ex k en eg eu =
    survey_more m t u g₀ g g' n n' excess low high x s h
    (el ∙ ap (λ (y : List ℕ). low_of (segments_of y)) ef) (eh ∙ ap (λ (y : List ℕ). high_of (segments_of y)) ef) (ex ∙ ap (λ (y : List ℕ). any_large (segments_of y)) ef) k en eg eu

pub survey_sum : (m t g₀ g : List ℕ) (n excess x : ℕ) → Survey m t n excess g₀ g → x ≤ 2 ^ 41 → excess + x < 2 ^ 64
survey_sum m t g₀ g n excess x s k = omega (arith, s.small, s.room)

pub survey_less : (t u : List ℕ) → u ≡ drop 96 t → 0 < length t → length u < length t
survey_less t u e h = let l : length u ≡ length t - 96 = ap length e ∙ length-drop 96 t in omega arith

-- ---- the whole survey
abbrev told : (count : ℕ) (small : Bool) → Surveyed
told n s = record { count = n; small = s }

made : (m g : List ℕ) → length m % 6 ≡ 0 → length m ≤ 6 * most_segments → 128 ≤ length g → surveyable (length m) (length g) ≡ true
unfolding surveyable
made m g h k l = rw (eq-eqb (length m % 6) 0 h, le-leb (length m) (6 * most_segments) k, le-leb 128 (length g) l) refl

none_made : (m g : List ℕ) → surveyable (length m) (length g) ≡ false → Surveys m g g (told 0 false)
unfolding groups_in small_in
none_made m g e =
    record {
      count = rw e refl;
      written = rw e (sym (put_nil g));
      small = rw e refl;
    }

pub survey_parts : (m g : List ℕ) (r : ℕ) → r ≡ length m % 6 → (r ≡ 0 → ⊥) → Surveys m g g (told 0 false)
unfolding surveyable
survey_parts m g r e h = none_made m g (rw (ne_eqb (length m % 6) 0 (λ z. h (e ∙ z))) refl)

pub survey_many : (m g : List ℕ) → 6 * most_segments < length m → Surveys m g g (told 0 false)
unfolding surveyable
survey_many m g h = none_made m g (rw (lt-leb (length m) (6 * most_segments) h) (sym (and_false (eqb (length m % 6) 0))))

pub survey_short : (m g : List ℕ) → length g < 128 → Surveys m g g (told 0 false)
unfolding surveyable
survey_short m g h =
    none_made m g
    (rw (lt-leb 128 (length g) h)
    (ap (λ (y : Bool). eqb (length m % 6) 0 && y) (sym (and_false (leb (length m) (6 * most_segments)))) ∙ sym (and_false (eqb (length m % 6) 0))))

zero_tells : (n : ℕ) → eqb n 0 ≡ not (ltb 0 n)
zero_tells n = go (ltb 0 n) refl
  where
    go : (t : Bool) → ltb 0 n ≡ t → eqb n 0 ≡ not t
    go true e = ne_eqb n 0 (λ z. absurd (omega (arith, ltb-true 0 n e, z)))
    go false e = eq-eqb n 0 (omega (arith, ltb-false 0 n e))

or_false : (t : Bool) → cond t true false ≡ t
or_false true = refl
or_false false = refl

no_groups : (u : List ℕ) → length u ≡ 0 → groups_of u ≡ []
unfolding groups_of groups_by
no_groups u p = rw p refl

pub survey_done : (m t g₀ g : List ℕ) (n excess r : ℕ) → Survey m t n excess g₀ g → length t ≤ 0 → r ≡ length m % 6 → r ≡ 0 → length m ≤ 6 * most_segments → Surveys m g₀ g (told n (eqb excess 0))
unfolding groups_in small_in any_large
survey_done m t g₀ g n excess r s h er z k =
    let y : surveyable (length m) (length g₀) ≡ true = made m g₀ (sym er ∙ z) k (omega (arith, s.lent, s.same)) in
    let e : segments_of t ≡ [] = segments_short t (omega arith) in
    let c : groups_of t ≡ [] = no_groups t (omega arith) in
    let a : ltb 0 excess ≡ any_large (segments_of m) = sym (or_false (ltb 0 excess)) ∙ sym (ap (λ (x : List Segment). cond (ltb 0 excess) true (any_large x)) e) ∙ s.large in
    record {
      count = rw y (let w : length (groups_of t) ≡ 0 = rw c refl in omega (arith, s.count, w));
      written = rw y (sym (put_at_nil n g) ∙ sym (ap (λ (x : List ℕ). put_at n x g) c) ∙ s.written);
      small = rw y (zero_tells excess ∙ ap not a);
    }

-- ---- small numbers break no limit
small_one : (a b q k o d : ℕ) → segment_large a b q k o d ≡ false → segment_bad a b q k o d ≡ false
unfolding segment_large segment_bad end_bad
small_one a b q k o d e = go (ltb most_frame a) (ltb most_frame b) (ltb most_frame k) (leb 4503599627370496 q) (leb 4503599627370496 o) (leb 4503599627370496 d) refl refl refl e
  where
    go : (A B K Q O D : Bool) → leb 4503599627370496 q ≡ Q → leb 4503599627370496 o ≡ O → leb 4503599627370496 d ≡ D
        → cond A true (cond B true (cond K true (cond Q true (cond O true D)))) ≡ false
        → cond A true (cond B true (cond K true (cond (ltb most_ticks (q + d)) true (ltb most_ticks (o + d))))) ≡ false
    go true B K Q O D eq eo ed p = p
    go false true K Q O D eq eo ed p = p
    go false false true Q O D eq eo ed p = p
    go false false false true O D eq eo ed p = absurd (true≢false p)
    go false false false false true D eq eo ed p = absurd (true≢false p)
    go false false false false false true eq eo ed p = absurd (true≢false p)
    go false false false false false false eq eo ed p =
        rw (le-ltb most_ticks (q + d) (omega (arith, leb-false 4503599627370496 q eq, leb-false 4503599627370496 d ed)), le-ltb most_ticks (o + d) (omega (arith, leb-false 4503599627370496 o eo, leb-false 4503599627370496 d ed))) refl

small_all : (xs : List Segment) → any_large xs ≡ false → any_bad xs ≡ false
unfolding any_large any_bad
small_all [] e = refl
small_all (x ∷ xs) e = go (segment_large x.source_start_frame x.source_end_frame x.source_start_dts x.frame_count x.output_start x.duration) refl e (small_all xs)
  where
    go : (t : Bool) → segment_large x.source_start_frame x.source_end_frame x.source_start_dts x.frame_count x.output_start x.duration ≡ t
        → cond t true (any_large xs) ≡ false → (any_large xs ≡ false → any_bad xs ≡ false)
        → cond (segment_bad x.source_start_frame x.source_end_frame x.source_start_dts x.frame_count x.output_start x.duration) true (any_bad xs) ≡ false
    go true p q ih = absurd (true≢false q)
    go false p q ih = rw (small_one x.source_start_frame x.source_end_frame x.source_start_dts x.frame_count x.output_start x.duration p) (ih q)

pub small_good : (lent : ℕ) (m : List ℕ) → small_in lent m ≡ true → map_bad m ≡ false
unfolding small_in surveyable map_bad
small_good lent m e =
    let s : eqb (length m % 6) 0 && (leb (length m) (6 * most_segments) && leb 128 lent) ≡ true = and_left (eqb (length m % 6) 0 && (leb (length m) (6 * most_segments) && leb 128 lent)) _ e in
    let p : eqb (length m % 6) 0 ≡ true = and_left (eqb (length m % 6) 0) _ s in
    let k : leb (length m) (6 * most_segments) ≡ true = and_left (leb (length m) (6 * most_segments)) _ (and_right (eqb (length m % 6) 0) _ s) in
    let b : not (any_large (segments_of m)) ≡ true = and_right (eqb (length m % 6) 0 && (leb (length m) (6 * most_segments) && leb 128 lent)) _ e in
    rw (p, le-ltb (6 * most_segments) (length m) (leb-true (length m) (6 * most_segments) k)) (small_all (segments_of m) (untrue (any_large (segments_of m)) b))
  where
    untrue : (t : Bool) → not t ≡ true → t ≡ false
    untrue true q = sym q
    untrue false q = refl
