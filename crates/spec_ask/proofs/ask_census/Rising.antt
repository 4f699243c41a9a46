-- The edges of a map that ascends ascend.
use mathlib.Core.Path.{◌≡◌, refl}
use mathlib.Core.Bool.{Bool, true, false, cond}
use mathlib.Core.List.{List, [], ◌∷◌}
use Prim.Native.Nat.{ℕ, ◌≤◌, ◌<◌}
use native.Mathlib.Omega.{arith}
use native.Mathlib.Nat.{le_trans}
use lib.Dec.{eqb}
use borrow.Author.Tests.{eqb-true}
use Rattle.spec_time.specs.caption_time.Convert.{end_units}
use Rattle.spec_time.proofs.caption_time.Conversions.{end_mono}
use Rattle.spec_map.specs.declared.segment.Segment.{Segment}
use Rattle.spec_map.specs.segment.Segment.{source_of, source_end}
use Rattle.spec_ask.specs.ask_order.Ascending.{output_end, ascends_from}
use Rattle.spec_ask.proofs.ask_order.Places.{Step, step, after_long, after_empty}
use Rattle.spec_ask.specs.ask_edges.Edge.{edge_at, edges_of}
use Rattle.spec_ask.specs.ask_edges.Count.{EdgesAscend}
use Rattle.spec_base.proofs.base.Laws.{pos_of}

module _ (T U : ℕ) (hT : 0 < T) where
  by_length : (x : Segment) (xs : List Segment) (s o p : ℕ) → Step s o x xs → p ≤ end_units T U s
      → ((s' o' p' : ℕ) → ascends_from s' o' xs ≡ true → p' ≤ end_units T U s' → EdgesAscend p' (edges_of T U xs))
      → (z : Bool) → eqb x.duration 0 ≡ z → EdgesAscend p (cond z (edges_of T U xs) (edge_at T U (source_of x) x.duration ∷ edges_of T U xs))
  by_length x xs s o p w h ih true e =
      let d0 : x.duration ≡ 0 = eqb-true x.duration 0 e in
      ih s o p (rw (after_empty x.duration s (source_end x) d0, after_empty x.duration o (output_end x) d0) at w.rest) h
  by_length x xs s o p w h ih false e =
      let l : 0 < x.duration = pos_of x.duration e in (
        le_trans h (end_mono T U hT (w.source_after l)),
        end_mono T U hT (omega arith),
        end_mono T U hT (omega arith),
        ih (source_end x) (output_end x) (end_units T U (source_end x))
            (rw (after_long x.duration s (source_end x) l, after_long x.duration o (output_end x) l) at w.rest) (omega arith),
      )

  pub edges_ascend : (m : List Segment) (s o p : ℕ) → ascends_from s o m ≡ true → p ≤ end_units T U s → EdgesAscend p (edges_of T U m)
  unfolding edges_of
  edges_ascend [] s o p w h = tt
  edges_ascend (x ∷ xs) s o p w h =
      by_length x xs s o p (step s o x xs w) h (λ s' o' p' w' h'. edges_ascend xs s' o' p' w' h') (eqb x.duration 0) refl
