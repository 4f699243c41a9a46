-- The loop over the segments, the last one first.
use mathlib.Core.Path.{◌≡◌, refl, sym, ap, ap₂, subst, ◌∙◌}
use mathlib.Core.Bool.{Bool, true, false, ◌&&◌, cond}
use mathlib.Core.List.{List, [], ◌∷◌}
use Prim.Native.Nat.{ℕ, zero, suc, ◌+◌, ◌-◌, ◌*◌, ◌/◌, ◌^◌, ◌≤◌, ◌<◌}
use native.Mathlib.Omega.{arith}
use native.Mathlib.Nat.{mul-le-mul}
use lib.Dec.{ltb, leb, eqb}
use lib.ListN.{length, get_or, drop, length-drop}
use lib.Seq.{drop-drop}
use borrow.Author.Tests.{lt-ltb, le-ltb, le-leb, lt-leb, ltb-true, ltb-false, leb-true, leb-false, eqb-true}
use Rattle.spec_time.specs.caption_time.Kind.{kind_bad, units_of}
use Rattle.spec_time.specs.caption_time.Convert.{scaled_up, timescale_bad, end_units, end_within, core_holds, core_ticks}
use Rattle.spec_time.proofs.caption_time.Scale.{quotient_below, up_down}
use Rattle.spec_time.proofs.caption_time.Limits.{core_within, units_high}
use Rattle.spec_map.specs.declared.segment.Segment.{Segment}
use Rattle.spec_map.specs.segment.Segment.{segment, segments_of, source_of, segment_bad, any_bad, end_bad, map_bad}
use Rattle.spec_map.proofs.segment.SegmentLaws.{segments_cut, segments_short, any_good}
use Rattle.spec_caption.proofs.caption_fate.FineLaws.{segment_good}
use Rattle.spec_ask.specs.declared.ask_edges.Edge.{Edge}
use Rattle.spec_ask.specs.ask_edges.Edge.{edge, edge_at, edges_of, edge_within, grade_by, grade_through}
use Rattle.spec_ask.proofs.ask_edges.Fine.{edge_empty, edge_fine}
use Rattle.spec_ask.specs.ask_delay.Paint.{reach, Filled, met_moved, whole_moved, Painted, Window}
use Rattle.spec_base.proofs.base.Laws.{pos_of, cond_left, cond_right}

-- ---- comparisons 6000 larger on both sides
shift_lt : (a b : ℕ) → reach ≤ a → ltb a (b + reach) ≡ ltb (a - reach) b
shift_lt a b h = go (ltb (a - reach) b) refl
  where
    go : (t : Bool) → ltb (a - reach) b ≡ t → ltb a (b + reach) ≡ t
    go true e = lt-ltb a (b + reach) (omega (arith, ltb-true (a - reach) b e))
    go false e = le-ltb a (b + reach) (omega (arith, ltb-false (a - reach) b e))

shift_le : (a b : ℕ) → reach ≤ a → leb (b + reach) a ≡ leb b (a - reach)
shift_le a b h = go (leb b (a - reach)) refl
  where
    go : (t : Bool) → leb b (a - reach) ≡ t → leb (b + reach) a ≡ t
    go true e = le-leb (b + reach) a (omega (arith, leb-true b (a - reach) e))
    go false e = lt-leb (b + reach) a (omega (arith, leb-false b (a - reach) e))

module _ (e : Edge) (S E j old : ℕ) (hS : reach ≤ S + j) (hE : reach ≤ E + j) where
  pub moved_grade : grade_by (met_moved e S E j) (whole_moved e S E j) old
      ≡ grade_by (ltb (S + j - reach) e.till && leb e.from (E + j - reach)) (leb e.low (S + j - reach) && ltb (E + j - reach) e.high) old
  moved_grade =
      ap₂ (λ (u v : Bool). grade_by u v old)
      (ap₂ ◌&&◌ (shift_lt (S + j) e.till hS) (shift_le (E + j) e.from hE))
      (ap₂ ◌&&◌ (shift_le (S + j) e.low hS) (shift_lt (E + j) e.high hE))

-- ---- a segment painted over those behind it
module _ (kind T : ℕ) (hk : kind_bad kind ≡ false) (hT : timescale_bad T ≡ false) where
  grade_step : (x : Segment) (xs : List Segment) (s e : ℕ) → end_bad (source_of x) x.duration ≡ false
      → (let g = edge_within kind T (source_of x) x.duration in grade_by (ltb s g.till && leb g.from e) (leb g.low s && ltb e g.high) (grade_through (edges_of T (units_of kind) xs) s e))
      ≡ grade_through (edges_of T (units_of kind) (x ∷ xs)) s e
  unfolding edges_of grade_through
  grade_step x xs s e b = go (eqb x.duration 0) refl
    where
      f : Edge → ℕ
      f g = grade_by (ltb s g.till && leb g.from e) (leb g.low s && ltb e g.high) (grade_through (edges_of T (units_of kind) xs) s e)

      go : (z : Bool) → eqb x.duration 0 ≡ z
          → grade_by (ltb s (edge_within kind T (source_of x) x.duration).till && leb (edge_within kind T (source_of x) x.duration).from e) (leb (edge_within kind T (source_of x) x.duration).low s && ltb e (edge_within kind T (source_of x) x.duration).high) (grade_through (edges_of T (units_of kind) xs) s e)
          ≡ grade_through (cond z (edges_of T (units_of kind) xs) (edge_at T (units_of kind) (source_of x) x.duration ∷ edges_of T (units_of kind) xs)) s e
      go true q = rw (sym (edge_empty kind T (source_of x) x.duration (eqb-true x.duration 0 q)), le-ltb s 0 (omega arith))
      go false q = rw (edge_fine kind T (source_of x) x.duration hk hT b (pos_of x.duration q))

  pub window_next : (x : Segment) (xs : List Segment) (S E : ℕ) (l l' : List ℕ) → end_bad (source_of x) x.duration ≡ false
      → Window (edges_of T (units_of kind) xs) S E l → Painted (edge_within kind T (source_of x) x.duration) S E l l' → Window (edges_of T (units_of kind) (x ∷ xs)) S E l'
  window_next x xs S E l l' b w p =
      record {
        size = p.size ∙ w.size;
        grades = λ j h hS hE.
            p.grades j (omega (arith, w.size))
            ∙ moved_grade (edge_within kind T (source_of x) x.duration) S E j (get_or l j 0) hS hE
            ∙ ap (λ (o : ℕ). grade_by (ltb (S + j - reach) (edge_within kind T (source_of x) x.duration).till && leb (edge_within kind T (source_of x) x.duration).from (E + j - reach)) (leb (edge_within kind T (source_of x) x.duration).low (S + j - reach) && ltb (E + j - reach) (edge_within kind T (source_of x) x.duration).high) o) (w.grades j h hS hE)
            ∙ grade_step x xs (S + j - reach) (E + j - reach) b;
      }

-- nothing painted yet
pub window_start : (S E : ℕ) (l l' : List ℕ) → length l ≡ 12001 → Filled 0 12001 0 l l' → Window [] S E l'
unfolding grade_through
window_start S E l l' n f =
    record {
      size = f.size ∙ n;
      grades = λ j h hS hE. f.grades j (omega arith) ∙ rw (le-leb 0 j (omega arith), lt-ltb j 12001 h);
    }

-- ---- the edges fit
end_most : (kind T k : ℕ) → end_within kind T k ≤ 2 ^ 63
unfolding end_within end_units
end_most kind T k = go (core_holds kind T k core_ticks) refl
  where
    go : (t : Bool) → core_holds kind T k core_ticks ≡ t → cond t (scaled_up k (units_of kind) T) 0 ≤ 2 ^ 63
    go true e =
        let w = core_within kind T k core_ticks e in
        let u = units_high kind w.kind_known in
        let q : k * units_of kind / T < 2 ^ 63 = quotient_below (2 ^ 63) w.T-low (omega (arith, mul-le-mul w.value_most u)) in
        omega (arith, q, up_down k (units_of kind) w.T-low)
    go false e = omega arith

record Small (e : Edge) : Type 0 where
  till : e.till ≤ 2 ^ 63
  from : e.from ≤ 2 ^ 63
  low : e.low ≤ 2 ^ 63
  high : e.high ≤ 2 ^ 63

none_small : Small (edge 0 0 0 0)
none_small = record { till = omega arith; from = omega arith; low = omega arith; high = omega arith }

edge_small : (kind T q d : ℕ) → Small (edge_within kind T q d)
unfolding edge_within
edge_small kind T q d = go (eqb d 0) (end_bad q d)
  where
    go : (u v : Bool) → Small (cond u (edge 0 0 0 0) (cond v (edge 0 0 0 0) (edge (end_within kind T (q + d)) (end_within kind T (q + 1)) (end_within kind T q) (end_within kind T (q + d + 1)))))
    go true v = none_small
    go false true = none_small
    go false false = record { till = end_most kind T (q + d); from = end_most kind T (q + 1); low = end_most kind T q; high = end_most kind T (q + d + 1) }

module _ (kind T q d : ℕ) (e : Edge) (h : e ≡ edge_within kind T q d) where
  small : Small e
  small = subst Small (sym h) (edge_small kind T q d)

  pub till_fits : e.till ≤ 2 ^ 63
  till_fits = small.till

  pub from_fits : e.from ≤ 2 ^ 63
  from_fits = small.from

  pub low_fits : e.low ≤ 2 ^ 63
  low_fits = small.low

  pub high_fits : e.high ≤ 2 ^ 63
  high_fits = small.high

-- ---- a good map has no bad segment, from any place on
abbrev bad_of : Segment → Bool
bad_of x = segment_bad x.source_start_frame x.source_end_frame x.source_start_dts x.frame_count x.output_start x.duration

any_tail : (x : Segment) (xs : List Segment) → any_bad (x ∷ xs) ≡ false → (bad_of x ≡ false) × (any_bad xs ≡ false)
unfolding any_bad
any_tail x xs e = (cond_left (bad_of x) (any_bad xs) e, cond_right (bad_of x) (any_bad xs) e)

any_drop : (m : List ℕ) → any_bad (segments_of m) ≡ false → (t : Bool) → ltb (length m) 6 ≡ t → any_bad (segments_of (drop 6 m)) ≡ false
any_drop m e true q =
    let h : length m < 6 = ltb-true (length m) 6 q in
    let k : length (drop 6 m) < 6 = rw length-drop (omega arith) in
    ap any_bad (segments_short (drop 6 m) k ∙ sym (segments_short m h)) ∙ e
any_drop m e false q =
    (any_tail _ (segments_of (drop 6 m)) (sym (ap any_bad (segments_cut m (ltb-false (length m) 6 q))) ∙ e)).1

any_from : (i : ℕ) (m : List ℕ) → any_bad (segments_of m) ≡ false → any_bad (segments_of (drop (6 * i) m)) ≡ false
any_from zero m e = e
any_from (suc i) m e =
    let n : 6 * suc i ≡ 6 + 6 * i = omega arith in
    let k : drop (6 * suc i) m ≡ drop (6 * i) (drop 6 m) = ap (λ (n : ℕ). drop n m) n ∙ sym (drop-drop (6 * i) 6 m) in
    ap (λ (l : List ℕ). any_bad (segments_of l)) k ∙ any_from i (drop 6 m) (any_drop m e (ltb (length m) 6) refl)

-- ---- the loop
pub loop_start : (kind T S E i : ℕ) (m l l' : List ℕ) → length l ≡ 12001 → Filled 0 12001 0 l l' → i ≡ length m / 6
    → Window (edges_of T (units_of kind) (segments_of (drop (6 * i) m))) S E l'
unfolding edges_of
loop_start kind T S E i m l l' n f e =
    let h : length (drop (6 * i) m) < 6 = rw length-drop (omega arith) in
    rw (segments_short (drop (6 * i) m) h) (window_start S E l l' n f)

module _ (kind T S E i : ℕ) (m t l l' : List ℕ) (q d : ℕ) (g : Edge) (hk : kind_bad kind ≡ false) (hT : timescale_bad T ≡ false) (b : map_bad m ≡ false) (p : 0 < i) (r : 6 * i ≤ length m)
    (w : Window (edges_of T (units_of kind) (segments_of (drop (6 * i) m))) S E l) (et : t ≡ drop (6 * (i - 1)) m) (eq : q ≡ get_or t 2 0) (ed : d ≡ get_or t 5 0)
    (eg : g ≡ edge_within kind T q d) (pt : Painted g S E l l') where
  long : 6 ≤ length t
  long = rw (et, length-drop) (omega arith)

  abbrev head : Segment
  head = segment (get_or t 0 0) (get_or t 1 0) (get_or t 2 0) (get_or t 3 0) (get_or t 4 0) (get_or t 5 0)

  cut : segments_of t ≡ head ∷ segments_of (drop 6 t)
  cut = segments_cut t long

  rest_is : drop (6 * i) m ≡ drop 6 t
  rest_is =
      let n : 6 * i ≡ 6 * (i - 1) + 6 = omega arith in
      ap (λ (n : ℕ). drop n m) n ∙ sym (drop-drop 6 (6 * (i - 1)) m) ∙ ap (λ (s : List ℕ). drop 6 s) (sym et)

  head_good : end_bad (source_of head) head.duration ≡ false
  head_good =
      let a : any_bad (segments_of t) ≡ false = subst (λ (s : List ℕ). any_bad (segments_of s) ≡ false) (sym et) (any_from (i - 1) m (any_good m b)) in
      (segment_good (record { kind = kind; timescale = T }) (record { kind_known = hk; timescale_good = hT }) _ _ _ _ _ _ (any_tail head (segments_of (drop 6 t)) (sym (ap any_bad cut) ∙ a)).0).0

  pub loop_again_is : Window (edges_of T (units_of kind) (segments_of (drop (6 * (i - 1)) m))) S E l'
  loop_again_is =
      let w' : Window (edges_of T (units_of kind) (segments_of (drop 6 t))) S E l = subst (λ (s : List ℕ). Window (edges_of T (units_of kind) (segments_of s)) S E l) rest_is w in
      let pt' : Painted (edge_within kind T (source_of head) head.duration) S E l l' = subst (λ (y : Edge). Painted y S E l l') (eg ∙ ap₂ (edge_within kind T) eq ed) pt in
      subst (λ (s : List ℕ). Window (edges_of T (units_of kind) (segments_of s)) S E l') et
      (subst (λ (s : List Segment). Window (edges_of T (units_of kind) s) S E l') (sym cut) (window_next kind T hk hT head (segments_of (drop 6 t)) S E l l' head_good w' pt'))

pub loop_room : (i : ℕ) (m : List ℕ) → 0 < i → 6 * i ≤ length m → 6 * (i - 1) ≤ length m
loop_room i m h r = omega arith

pub loop_end : (kind T S E i : ℕ) (m l : List ℕ) → Window (edges_of T (units_of kind) (segments_of (drop (6 * i) m))) S E l → i ≤ 0 → Window (edges_of T (units_of kind) (segments_of m)) S E l
loop_end kind T S E i m l w h = let z : i ≡ 0 = omega arith in rw z at w

pub window_size : (es : List Edge) (S E : ℕ) (l : List ℕ) → Window es S E l → length l ≡ 12001
window_size es S E l w = w.size
