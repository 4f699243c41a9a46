-- Laws of the edges that the code makes: within the limits they are the segment's.
use mathlib.Core.Path.{◌≡◌, refl, sym, ◌∙◌}
use mathlib.Core.Bool.{Bool, true, false}
use Prim.Native.Nat.{ℕ, ◌+◌, ◌≤◌, ◌<◌}
use native.Mathlib.Omega.{arith}
use native.Mathlib.Numerals.{add-one}
use borrow.Author.Tests.{eq-eqb, ne_eqb}
use Rattle.spec_base.specs.base.Limits.{most_ticks}
use Rattle.spec_base.proofs.base.Laws.{yes!, no! }
use Rattle.spec_time.specs.caption_time.Kind.{kind_bad, units_of}
use Rattle.spec_time.specs.caption_time.Convert.{end_units, end_within, timescale_bad, core_ticks}
use Rattle.spec_time.proofs.caption_time.Limits.{end_within_lem, timescale_low, timescale_high}
use Rattle.spec_map.specs.segment.Segment.{end_bad}
use Rattle.spec_map.proofs.segment.SegmentLaws.{end_good}
use Rattle.spec_ask.specs.declared.ask_edges.Edge.{Edge}
use Rattle.spec_ask.specs.ask_edges.Edge.{edge, edge_at, edge_within}

pub edge_empty : (kind T q d : ℕ) → d ≡ 0 → edge 0 0 0 0 ≡ edge_within kind T q d
unfolding edge_within
edge_empty kind T q d e = yes! _ (eq-eqb d 0 e) refl

pub edge_bad : (kind T q d : ℕ) (x : Bool) → (d ≡ 0 → ⊥) → x ≡ end_bad q d → x ≡ true → edge 0 0 0 0 ≡ edge_within kind T q d
unfolding edge_within
edge_bad kind T q d x n e h = no! _ (ne_eqb d 0 n) (yes! _ (sym e ∙ h) refl)

pub edge_made : (kind T q d t f l h : ℕ) (x : Bool) → (d ≡ 0 → ⊥) → x ≡ end_bad q d → x ≡ false
    → t ≡ end_within kind T (q + d) → f ≡ end_within kind T (q + 1) → l ≡ end_within kind T q → h ≡ end_within kind T (q + d + 1)
    → ◌≡◌ {A = Edge} (record { till = t; from = f; low = l; high = h }) (edge_within kind T q d)
unfolding edge_within
edge_made kind T q d t f l h x n e k et ef el eh = no! _ (ne_eqb d 0 n) (no! _ (sym e ∙ k) (rw (et, ef, el, eh)))

pub edge_sums : (q d : ℕ) (x : Bool) → x ≡ end_bad q d → x ≡ false → q + d ≤ most_ticks
edge_sums q d x e k = end_good q d (sym e ∙ k)

-- within the limits
pub edge_fine : (kind T q d : ℕ) → kind_bad kind ≡ false → timescale_bad T ≡ false → end_bad q d ≡ false → 0 < d → edge_within kind T q d ≡ edge_at T (units_of kind) q d
unfolding edge_within
edge_fine kind T q d hk hT e h =
    let s : q + d ≤ most_ticks = end_good q d e in
    sym (no! _ (ne_eqb d 0 (λ z. omega arith)) (no! _ e (rw (w (q + d) (omega arith), w (q + 1) (omega arith), w q (omega arith), w (q + d + 1) (omega arith), add-one, add-one))))
  where
    w : (k : ℕ) → k ≤ core_ticks → end_within kind T k ≡ end_units T (units_of kind) k
    w k l = end_within_lem (record { kind_known = hk; T-low = timescale_low T hT; T-high = omega (arith, timescale_high T hT); value_most = l })
