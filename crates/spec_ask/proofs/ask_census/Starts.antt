-- The counts of starts by the caption rules are the counts by edges.
use mathlib.Core.Path.{◌≡◌, refl, sym, ap, ◌∙◌}
use mathlib.Core.Bool.{Bool, true, false, cond, ◌||◌}
use mathlib.Core.List.{List}
use Prim.Native.Nat.{ℕ, zero, suc, ◌+◌, ◌<◌}
use native.Mathlib.Omega.{arith}
use Rattle.spec_time.specs.caption_time.Kind.{units_of}
use Rattle.spec_map.specs.declared.segment.Segment.{Segment}
use Rattle.spec_caption.specs.declared.caption_fate.Config.{Config}
use Rattle.spec_caption.specs.declared.caption_fate.Decision.{Decision}
use Rattle.spec_caption.specs.declared.caption_fate.Decision.TheVariants.{Strange, Dropped, Kept}
use Rattle.spec_caption.specs.caption_fate.Decide.{decide_of}
use Rattle.spec_caption.specs.caption_fate.Fates.{Fate, passed, dropped, shifted, clipped, fate_by, fate_of}
use Rattle.spec_ask.specs.ask_order.Ascending.{ascends}
use Rattle.spec_ask.specs.ask_edges.Edge.{edges_of, fate_grade, grade_through}
use Rattle.spec_ask.specs.ask_edges.Count.{one_kept, one_whole, count_starts, kept_fast, whole_fast, EdgesAscend}
use Rattle.spec_ask.proofs.ask_edges.Units.{fate_grades}
use Rattle.spec_ask.proofs.ask_edges.Kept.{kept_fast_lem}
use Rattle.spec_ask.proofs.ask_edges.Whole.{whole_fast_lem}
use Rattle.spec_ask.specs.ask_census.Census.{is_shifted, is_clipped, is_dropped, starts_with}
use Rattle.spec_ask.proofs.ask_census.Rising.{edges_ascend}

-- ---- one fate
whole_of : (f : Fate) → is_shifted f ≡ one_whole (fate_grade f)
whole_of passed = refl
whole_of dropped = refl
whole_of (shifted s e) = refl
whole_of (clipped s e) = refl

kept_of_lem : (f : Fate) → is_shifted f + is_clipped f ≡ one_kept (fate_grade f)
kept_of_lem passed = refl
kept_of_lem dropped = refl
kept_of_lem (shifted s e) = refl
kept_of_lem (clipped s e) = refl

-- a caption whose times are read does not pass
one_fate : (d : Decision) → is_shifted (fate_by d) + is_clipped (fate_by d) + is_dropped (fate_by d) ≡ 1
one_fate Strange = refl
one_fate Dropped = refl
one_fate (Kept r) = go (r.start_cut || r.end_cut)
  where
    go : (t : Bool) → is_shifted (cond t (clipped r.start r.stop) (shifted r.start r.stop))
        + is_clipped (cond t (clipped r.start r.stop) (shifted r.start r.stop))
        + is_dropped (cond t (clipped r.start r.stop) (shifted r.start r.stop)) ≡ 1
    go true = refl
    go false = refl

-- ---- the starts
module _ (c : Config) (m : List Segment) (L : ℕ) where
  -- the three sum to N
  pub starts_sum : (N : ℕ) → starts_with is_shifted c m L N + starts_with is_clipped c m L N + starts_with is_dropped c m L N ≡ N
  unfolding starts_with fate_of
  starts_sum zero = refl
  starts_sum (suc N) = omega (arith, starts_sum N, one_fate (decide_of c m N (N + L)))

  module _ (hT : 0 < c.timescale) (hU : 0 < units_of c.kind) where
    whole_starts : (N : ℕ) → starts_with is_shifted c m L N ≡ count_starts one_whole (edges_of c.timescale (units_of c.kind) m) L N
    unfolding starts_with count_starts
    whole_starts zero = refl
    whole_starts (suc N) =
        let k : is_shifted (fate_of c m N (N + L)) ≡ one_whole (grade_through (edges_of c.timescale (units_of c.kind) m) N (N + L)) =
        whole_of (fate_of c m N (N + L)) ∙ ap one_whole (fate_grades c m hT hU N (N + L)) in
        omega (arith, whole_starts N, k)

    kept_starts : (N : ℕ) → starts_with is_shifted c m L N + starts_with is_clipped c m L N ≡ count_starts one_kept (edges_of c.timescale (units_of c.kind) m) L N
    unfolding starts_with count_starts
    kept_starts zero = refl
    kept_starts (suc N) =
        let k : is_shifted (fate_of c m N (N + L)) + is_clipped (fate_of c m N (N + L)) ≡ one_kept (grade_through (edges_of c.timescale (units_of c.kind) m) N (N + L)) =
        kept_of_lem (fate_of c m N (N + L)) ∙ ap one_kept (fate_grades c m hT hU N (N + L)) in
        omega (arith, kept_starts N, k)

    module _ (w : ascends m ≡ true) where
      pub rises : EdgesAscend 0 (edges_of c.timescale (units_of c.kind) m)
      unfolding ascends
      rises = edges_ascend c.timescale (units_of c.kind) hT m 0 0 0 w (omega arith)

      pub whole_counted : (N : ℕ) → whole_fast (edges_of c.timescale (units_of c.kind) m) 0 L N ≡ starts_with is_shifted c m L N
      whole_counted N = whole_fast_lem _ L N rises ∙ sym (whole_starts N)

      pub kept_counted : (N : ℕ) → kept_fast (edges_of c.timescale (units_of c.kind) m) 0 L N ≡ starts_with is_shifted c m L N + starts_with is_clipped c m L N
      kept_counted N = kept_fast_lem _ L N rises ∙ sym (kept_starts N)
