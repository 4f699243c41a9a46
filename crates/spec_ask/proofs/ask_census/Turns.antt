-- The loop over the segments: what is left of the counts, from here on, makes the whole counts.
use mathlib.Core.Path.{◌≡◌, refl, sym, subst}
use mathlib.Core.Bool.{Bool, true, false, cond, true≢false}
use mathlib.Core.List.{List, ◌∷◌}
use Prim.Native.Nat.{ℕ, ◌+◌, ◌-◌, ◌≤◌, ◌<◌, min, max}
use native.Mathlib.Omega.{arith}
use mir.Syntax.{w64}
use mir.Val.{Fits}
use lib.Dec.{eqb}
use lib.ListN.{length, drop, get_or}
use borrow.Author.Tests.{eqb-true}
use Rattle.spec_time.specs.caption_time.Kind.{kind_bad, units_of}
use Rattle.spec_time.specs.caption_time.Convert.{timescale_bad}
use Rattle.spec_time.proofs.caption_time.Limits.{timescale_low, units_low}
use Rattle.spec_map.specs.declared.segment.Segment.{Segment}
use Rattle.spec_map.specs.segment.Segment.{segment, segments_of, source_of, segment_bad, any_bad, end_bad, map_bad}
use Rattle.spec_map.proofs.segment.SegmentLaws.{segments_cut, segments_short, any_good}
use Rattle.spec_caption.specs.declared.caption_fate.Config.{Config}
use Rattle.spec_caption.proofs.caption_fate.FineLaws.{Set, segment_good}
use Rattle.spec_ask.specs.ask_order.Ascending.{ascends}
use Rattle.spec_ask.specs.declared.ask_edges.Edge.{Edge}
use Rattle.spec_ask.specs.ask_edges.Edge.{edge, edge_at, edges_of, edge_within}
use Rattle.spec_ask.specs.ask_edges.Count.{starts_in, kept_fast, whole_fast, EdgesAscend}
use Rattle.spec_ask.proofs.ask_edges.Fine.{edge_empty, edge_fine}
use Rattle.spec_ask.specs.ask_census.Census.{most_starts}
use Rattle.spec_ask.proofs.ask_census.Starts.{starts_sum, rises, whole_counted, kept_counted}
use Rattle.spec_base.proofs.base.Laws.{pos_of}

within_none : (lo hi N : ℕ) → hi ≡ 0 → starts_in lo hi N ≡ 0
unfolding starts_in
within_none lo hi N e = omega arith

pub within_of : (lo hi N a b r : ℕ) → a ≡ min N hi → b ≡ min N lo → r ≡ a - b → r ≡ starts_in lo hi N
unfolding starts_in
within_of lo hi N a b r ea eb er = rw (er, ea, eb)

-- ---- the loop: T and U, the map m, and what is left of it, t
pub record Going (T U : ℕ) (m t : List ℕ) (L N p kept whole : ℕ) : Type 0 where
  pub good : any_bad (segments_of t) ≡ false
  pub rises : EdgesAscend p (edges_of T U (segments_of t))
  pub kept_left : kept + kept_fast (edges_of T U (segments_of t)) p L N ≡ kept_fast (edges_of T U (segments_of m)) 0 L N
  pub whole_left : whole + whole_fast (edges_of T U (segments_of t)) p L N ≡ whole_fast (edges_of T U (segments_of m)) 0 L N

module _ (kind T : ℕ) (hk : kind_bad kind ≡ false) (hT : timescale_bad T ≡ false) where
  abbrev U : ℕ
  U = units_of kind

  abbrev config : Config
  config = record { kind = kind; timescale = T }

  pub pos_t : 0 < T
  pos_t = timescale_low T hT

  pub pos_u : 0 < units_of kind
  pos_u = omega (arith, units_low kind hk)

  set : Set config
  set = record { kind_known = hk; timescale_good = hT }

  -- ---- one segment
  record Turned (e : Edge) (x : Segment) (xs : List Segment) (p L N : ℕ) : Type 0 where
    rises : EdgesAscend (max p e.till) (edges_of T U xs)
    kept : kept_fast (edges_of T U (x ∷ xs)) p L N ≡ starts_in (max p (e.from - L)) e.till N + kept_fast (edges_of T U xs) (max p e.till) L N
    whole : whole_fast (edges_of T U (x ∷ xs)) p L N
        ≡ starts_in (max (max p (e.from - L)) e.low) (min e.till (e.high - L)) N + whole_fast (edges_of T U xs) (max p e.till) L N

  empty : (x : Segment) (xs : List Segment) (p L N : ℕ) → eqb x.duration 0 ≡ true → EdgesAscend p (edges_of T U (x ∷ xs)) → Turned (edge 0 0 0 0) x xs p L N
  unfolding edges_of
  empty x xs p L N e a =
      let z : max p 0 ≡ p = omega arith in
      let a' : EdgesAscend p (edges_of T U xs) = rw e at a in
      record {
        rises = rw z a';
        kept = rw (e, z) (omega (arith, within_none (max p (0 - L)) 0 N refl));
        whole = rw (e, z) (omega (arith, within_none (max (max p (0 - L)) 0) (min 0 (0 - L)) N (omega arith)));
      }

  long : (x : Segment) (xs : List Segment) (p L N : ℕ) → eqb x.duration 0 ≡ false → EdgesAscend p (edges_of T U (x ∷ xs)) → Turned (edge_at T U (source_of x) x.duration) x xs p L N
  unfolding edges_of kept_fast whole_fast
  long x xs p L N e a =
      let g = edge_at T U (source_of x) x.duration in
      let a' : EdgesAscend p (g ∷ edges_of T U xs) = rw e at a in
      let z : max p g.till ≡ g.till = omega (arith, a'.0, a'.1, a'.2) in
      record {
        rises = rw z a'.3;
        kept = rw (e, z);
        whole = rw (e, z);
      }

  turned : (x : Segment) (xs : List Segment) (p L N : ℕ) → end_bad (source_of x) x.duration ≡ false → EdgesAscend p (edges_of T U (x ∷ xs))
      → Turned (edge_within kind T (source_of x) x.duration) x xs p L N
  turned x xs p L N g a = go (eqb x.duration 0) refl
    where
      go : (z : Bool) → eqb x.duration 0 ≡ z → Turned (edge_within kind T (source_of x) x.duration) x xs p L N
      go true e = subst (λ (y : Edge). Turned y x xs p L N) (edge_empty kind T (source_of x) x.duration (eqb-true x.duration 0 e)) (empty x xs p L N e a)
      go false e = subst (λ (y : Edge). Turned y x xs p L N) (sym (edge_fine kind T (source_of x) x.duration hk hT g (pos_of x.duration e))) (long x xs p L N e a)

  any_cut : (x : Segment) (xs : List Segment) → any_bad (x ∷ xs) ≡ false → (end_bad (source_of x) x.duration ≡ false) × (any_bad xs ≡ false)
  unfolding any_bad
  any_cut x xs e = go (segment_bad x.source_start_frame x.source_end_frame x.source_start_dts x.frame_count x.output_start x.duration) refl e
    where
      go : (t : Bool) → segment_bad x.source_start_frame x.source_end_frame x.source_start_dts x.frame_count x.output_start x.duration ≡ t
          → cond t true (any_bad xs) ≡ false → (end_bad (source_of x) x.duration ≡ false) × (any_bad xs ≡ false)
      go true q z = absurd (true≢false z)
      go false q z = ((segment_good config set _ _ _ _ _ _ q).0, z)

  -- ---- the loop
  pub going_start : (m : List ℕ) (L N : ℕ) → map_bad m ≡ false → ascends (segments_of m) ≡ true → Going T U m m L N 0 0 0
  going_start m L N g w =
      record {
        good = any_good m g;
        rises = rises config (segments_of m) L pos_t pos_u w;
        kept_left = omega arith;
        whole_left = omega arith;
      }

  pub kept_most : (m : List ℕ) (L N : ℕ) → ascends (segments_of m) ≡ true → kept_fast (edges_of T U (segments_of m)) 0 L N ≤ N
  kept_most m L N w = omega (arith, kept_counted config (segments_of m) L pos_t pos_u w N, starts_sum config (segments_of m) L N)

  pub whole_most : (m : List ℕ) (L N : ℕ) → ascends (segments_of m) ≡ true → whole_fast (edges_of T U (segments_of m)) 0 L N ≤ kept_fast (edges_of T U (segments_of m)) 0 L N
  whole_most m L N w = omega (arith, kept_counted config (segments_of m) L pos_t pos_u w N, whole_counted config (segments_of m) L pos_t pos_u w N)

  module _ (m t : List ℕ) (L N p kept whole q d : ℕ) (g : Going T U m t L N p kept whole) (h : 6 ≤ length t) (eq : q ≡ get_or t 2 0) (ed : d ≡ get_or t 5 0) where
    abbrev head : Segment
    head = segment (get_or t 0 0) (get_or t 1 0) (get_or t 2 0) (get_or t 3 0) (get_or t 4 0) (get_or t 5 0)

    abbrev tail : List Segment
    tail = segments_of (drop 6 t)

    cut : segments_of t ≡ head ∷ tail
    cut = segments_cut t h

    parts : (end_bad (source_of head) head.duration ≡ false) × (any_bad tail ≡ false)
    parts = any_cut head tail (subst (λ (s : List Segment). any_bad s ≡ false) cut g.good)

    turn : Turned (edge_within kind T (source_of head) head.duration) head tail p L N
    turn = turned head tail p L N parts.0 (subst (λ (s : List Segment). EdgesAscend p (edges_of T U s)) cut g.rises)

    turn_here : Turned (edge_within kind T q d) head tail p L N
    turn_here = subst (λ (n : ℕ). Turned (edge_within kind T n d) head tail p L N) (sym eq) (subst (λ (n : ℕ). Turned (edge_within kind T (get_or t 2 0) n) head tail p L N) (sym ed) turn)

    kept_here : kept + kept_fast (edges_of T U (head ∷ tail)) p L N ≡ kept_fast (edges_of T U (segments_of m)) 0 L N
    kept_here = subst (λ (s : List Segment). kept + kept_fast (edges_of T U s) p L N ≡ kept_fast (edges_of T U (segments_of m)) 0 L N) cut g.kept_left

    whole_here : whole + whole_fast (edges_of T U (head ∷ tail)) p L N ≡ whole_fast (edges_of T U (segments_of m)) 0 L N
    whole_here = subst (λ (s : List Segment). whole + whole_fast (edges_of T U s) p L N ≡ whole_fast (edges_of T U (segments_of m)) 0 L N) cut g.whole_left

    next_by_lem : (e : Edge) (u : List ℕ) → Turned e head tail p L N → u ≡ drop 6 t
        → Going T U m u L N (max p e.till) (kept + starts_in (max p (e.from - L)) e.till N) (whole + starts_in (max (max p (e.from - L)) e.low) (min e.till (e.high - L)) N)
    next_by_lem e u w eu =
        rw eu
        (record {
          good = parts.1;
          rises = w.rises;
          kept_left = omega (arith, kept_here, w.kept);
          whole_left = omega (arith, whole_here, w.whole);
        })

    room_by : (e : Edge) → Turned e head tail p L N → ascends (segments_of m) ≡ true → N ≤ most_starts
        → (kept + starts_in (max p (e.from - L)) e.till N ≤ most_starts) × (whole + starts_in (max (max p (e.from - L)) e.low) (min e.till (e.high - L)) N ≤ most_starts)
    room_by e w a n =
        (omega (arith, kept_here, w.kept, kept_most m L N a), omega (arith, whole_here, w.whole, kept_most m L N a, whole_most m L N a))

    -- as the code has it
    module _ (e : Edge) (lf first more lg lh sm wholes : ℕ) (ee : e ≡ edge_within kind T q d) (e1 : lf ≡ e.from - L) (e2 : first ≡ max p lf)
        (e3 : more ≡ starts_in first e.till N) (e4 : lg ≡ max first e.low) (e5 : lh ≡ e.high - L) (e6 : sm ≡ min e.till lh) (e7 : wholes ≡ starts_in lg sm N) where
      more_is : more ≡ starts_in (max p (e.from - L)) e.till N
      more_is = rw (e3, e2, e1)

      wholes_is : wholes ≡ starts_in (max (max p (e.from - L)) e.low) (min e.till (e.high - L)) N
      wholes_is = rw (e7, e6, e5, e4, e2, e1)

      here : Turned e head tail p L N
      here = subst (λ (y : Edge). Turned y head tail p L N) (sym ee) turn_here

      pub going_again : (u : List ℕ) (p' : ℕ) → u ≡ drop 6 t → p' ≡ max p e.till → Going T U m u L N p' (kept + more) (whole + wholes)
      going_again u p' eu ep = rw (ep, more_is, wholes_is) (next_by_lem e u here eu)

      going_room : ascends (segments_of m) ≡ true → N ≤ most_starts → (kept + more ≤ most_starts) × (whole + wholes ≤ most_starts)
      going_room a n = rw (more_is, wholes_is) (room_by e here a n)

      pub room_kept : ascends (segments_of m) ≡ true → N ≤ most_starts → Fits w64 (kept + more)
      room_kept a n = record { fits = omega (arith, (going_room a n).0) }

      pub room_whole : ascends (segments_of m) ≡ true → N ≤ most_starts → Fits w64 (whole + wholes)
      room_whole a n = record { fits = omega (arith, (going_room a n).1) }

  pub end_kept : (m t : List ℕ) (L N p kept whole : ℕ) → Going T U m t L N p kept whole → length t < 6 → kept ≡ kept_fast (edges_of T U (segments_of m)) 0 L N
  unfolding edges_of kept_fast
  end_kept m t L N p kept whole g h =
      let k : kept + 0 ≡ kept_fast (edges_of T U (segments_of m)) 0 L N = rw (segments_short t h) at g.kept_left in
      omega (arith, k)

  pub end_whole : (m t : List ℕ) (L N p kept whole : ℕ) → Going T U m t L N p kept whole → length t < 6 → whole ≡ whole_fast (edges_of T U (segments_of m)) 0 L N
  unfolding edges_of whole_fast
  end_whole m t L N p kept whole g h =
      let w : whole + 0 ≡ whole_fast (edges_of T U (segments_of m)) 0 L N = rw (segments_short t h) at g.whole_left in
      omega (arith, w)
