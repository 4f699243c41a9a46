-- Laws of the answer: its refusals, and the three counts.
use mathlib.Core.Path.{◌≡◌, sym, ◌∙◌}
use mathlib.Core.Bool.{true, false, not}
use mathlib.Core.List.{List}
use Prim.Native.Nat.{ℕ, ◌+◌, ◌-◌, ◌≤◌}
use native.Mathlib.Omega.{arith}
use lib.Dec.{leb}
use borrow.Author.Tests.{eq-eqb, ne_eqb, leb-true, not-true}
use Rattle.spec_base.specs.base.Refusal.{fault_unless}
use Rattle.spec_base.proofs.base.RefusalLaws.{held, else_zero}
use Rattle.spec_base.proofs.base.Laws.{yes!, no! }
use Rattle.spec_time.specs.caption_time.Kind.{kind_bad, units_of}
use Rattle.spec_time.specs.caption_time.Convert.{timescale_bad}
use Rattle.spec_map.specs.segment.Segment.{segments_of, map_bad}
use Rattle.spec_caption.specs.declared.caption_fate.Config.{Config}
use Rattle.spec_ask.specs.ask_order.Ascending.{ascends}
use Rattle.spec_ask.specs.ask_edges.Edge.{edges_of}
use Rattle.spec_ask.specs.ask_edges.Count.{kept_fast, whole_fast}
use Rattle.spec_ask.specs.declared.ask_census.StartCounts.{StartCounts}
use Rattle.spec_ask.specs.ask_census.Census.{most_starts, is_shifted, is_clipped, is_dropped, starts_with, census_number, census_of}
use Rattle.spec_ask.proofs.ask_census.Starts.{starts_sum, whole_counted, kept_counted}
use Rattle.spec_ask.proofs.ask_census.Turns.{pos_t, pos_u, kept_most, whole_most}

-- what is not refused
pub record Taken (m : List ℕ) (T kind L N : ℕ) : Type 0 where
  pub timescale : timescale_bad T ≡ false
  pub map : map_bad m ≡ false
  pub rises : ascends (segments_of m) ≡ true
  pub known : kind_bad kind ≡ false
  pub count : N ≤ most_starts

pub taken : (m : List ℕ) (T kind L N : ℕ) → census_number m T kind L N ≡ 0 → Taken m T kind L N
unfolding census_number
taken m T kind L N e =
    let a = else_zero (fault_unless (not (timescale_bad T)) 15) _ e in
    let b = else_zero (fault_unless (not (map_bad m)) 15) _ a.1 in
    let c = else_zero (fault_unless (ascends (segments_of m)) 28) _ b.1 in
    let d = else_zero (fault_unless (not (kind_bad kind)) 16) _ c.1 in
    let f = else_zero (fault_unless (leb L most_starts) 16) _ d.1 in
    record {
      timescale = not-true _ (held _ 15 (λ z. omega arith) a.0);
      map = not-true _ (held _ 15 (λ z. omega arith) b.0);
      rises = held _ 28 (λ z. omega arith) c.0;
      known = not-true _ (held _ 16 (λ z. omega arith) d.0);
      count = leb-true N most_starts (held _ 16 (λ z. omega arith) f.1);
    }

pub refused : (m : List ℕ) (T kind L N r : ℕ) → r ≡ census_number m T kind L N → (r ≡ 0 → ⊥)
    → ◌≡◌ {A = StartCounts} (record { number = r; shifted = 0; clipped = 0; dropped = 0 }) (census_of m T kind L N)
unfolding census_of
refused m T kind L N r e n = no! _ (ne_eqb (census_number m T kind L N) 0 (λ z. n (e ∙ z))) (rw e)

module _ (m : List ℕ) (T kind L N r : ℕ) (e : r ≡ census_number m T kind L N) (z : r ≡ 0) where
  k : Taken m T kind L N
  k = taken m T kind L N (sym e ∙ z)

  pub asks_timescale : timescale_bad T ≡ false
  asks_timescale = k.timescale

  pub asks_kind : kind_bad kind ≡ false
  asks_kind = k.known

  pub asks_map : map_bad m ≡ false
  asks_map = k.map

  pub asks_rises : ascends (segments_of m) ≡ true
  asks_rises = k.rises

  pub asks_count : N ≤ most_starts
  asks_count = k.count

  module _ (kept whole : ℕ) (ek : kept ≡ kept_fast (edges_of T (units_of kind) (segments_of m)) 0 L N) (ew : whole ≡ whole_fast (edges_of T (units_of kind) (segments_of m)) 0 L N) where
    pub whole_kept : whole ≤ kept
    whole_kept = omega (arith, ek, ew, whole_most kind T k.known k.timescale m L N k.rises)

    pub kept_count_lem : kept ≤ N
    kept_count_lem = omega (arith, ek, kept_most kind T k.known k.timescale m L N k.rises)

    pub counted : ◌≡◌ {A = StartCounts} (record { number = 0; shifted = whole; clipped = kept - whole; dropped = N - kept }) (census_of m T kind L N)
    unfolding census_of
    counted =
        let c : Config = record { kind = kind; timescale = T } in
        let pT = pos_t kind T k.known k.timescale in
        let pU = pos_u kind T k.known k.timescale in
        let w : whole ≡ starts_with is_shifted c (segments_of m) L N = ew ∙ whole_counted c (segments_of m) L pT pU k.rises N in
        let p : kept ≡ starts_with is_shifted c (segments_of m) L N + starts_with is_clipped c (segments_of m) L N = ek ∙ kept_counted c (segments_of m) L pT pU k.rises N in
        let s = starts_sum c (segments_of m) L N in
        let q : kept - whole ≡ starts_with is_clipped c (segments_of m) L N = omega (arith, w, p) in
        let d : N - kept ≡ starts_with is_dropped c (segments_of m) L N = omega (arith, p, s) in
        yes! _ (eq-eqb (census_number m T kind L N) 0 (sym e ∙ z)) (rw (q, d, w))
