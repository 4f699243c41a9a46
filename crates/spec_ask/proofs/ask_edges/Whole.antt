-- The count of shifted captions by segments is the count by starts.
use Prim.Native.Nat.{ℕ, zero, suc, ◌+◌, ◌-◌, ◌≤◌, ◌<◌, min, max}
use mathlib.Core.Path.{◌≡◌, refl, sym, ◌∙◌}
use mathlib.Core.Bool.{Bool, true, false, ◌&&◌}
use mathlib.Core.List.{List, [], ◌∷◌}
use native.Mathlib.Omega.{arith}
use borrow.Author.Tests.{le-leb, lt-leb, ltb-true, ltb-false, leb-true, leb-false}
use lib.Dec.{ltb, leb}
use Rattle.spec_ask.specs.declared.ask_edges.Edge.{Edge}
use Rattle.spec_ask.specs.ask_edges.Edge.{grade_by, grade_through}
use Rattle.spec_ask.specs.ask_edges.Count.{one_whole, count_starts, starts_in, whole_fast, EdgesAscend}
use Rattle.spec_ask.proofs.ask_edges.Kept.{within_in, within_low, within_high, within_zero, before_all}

abbrev more : (ok : Bool) → ℕ → ℕ
more true k = one_whole k
more false k = 0

-- what a start adds at one segment: p ≤ N, N < till, from ≤ N + L, low ≤ N, N + L < high
one_edge : (e : Edge) (p L N r : ℕ) → r ≡ 0 → N < e.till → (y x u v : Bool) → leb p N ≡ y → leb e.from (N + L) ≡ x → leb e.low N ≡ u → ltb (N + L) e.high ≡ v
    → starts_in (max (max p (e.from - L)) e.low) (min e.till (e.high - L)) (suc N)
    ≡ starts_in (max (max p (e.from - L)) e.low) (min e.till (e.high - L)) N + more y (grade_by (true && x) (u && v) r)
one_edge e p L N r z l true true true true a b c d =
    omega (arith, within_in (max (max p (e.from - L)) e.low) (min e.till (e.high - L)) N (omega (arith, leb-true p N a, leb-true e.from (N + L) b, leb-true e.low N c)) (omega (arith, ltb-true (N + L) e.high d)))
one_edge e p L N r z l true true true false a b c d =
    omega (arith, within_high (max (max p (e.from - L)) e.low) (min e.till (e.high - L)) N (omega (arith, ltb-false (N + L) e.high d)))
one_edge e p L N r z l true true false v a b c d =
    omega (arith, within_low (max (max p (e.from - L)) e.low) (min e.till (e.high - L)) N (omega (arith, leb-false e.low N c)))
one_edge e p L N r z l true false u v a b c d =
    let k : one_whole r ≡ 0 = rw z in
    omega (arith, k, within_low (max (max p (e.from - L)) e.low) (min e.till (e.high - L)) N (omega (arith, leb-false e.from (N + L) b)))
one_edge e p L N r z l false x u v a b c d =
    omega (arith, within_low (max (max p (e.from - L)) e.low) (min e.till (e.high - L)) N (omega (arith, leb-false p N a)))

nothing : (y : Bool) → 0 ≡ 0 + more y 0
nothing true = refl
nothing false = refl

stepped : (e : Edge) (es : List Edge) (p L N : ℕ) → EdgesAscend p (e ∷ es)
    → whole_fast es e.till L (suc N) ≡ whole_fast es e.till L N + more (leb e.till N) (grade_through es N (N + L))
    → whole_fast (e ∷ es) p L (suc N) ≡ whole_fast (e ∷ es) p L N + more (leb p N) (grade_through (e ∷ es) N (N + L))
unfolding grade_through whole_fast
stepped e es p L N a ih = go (ltb N e.till) refl
  where
    -- the hit is e, or none: what the later segments would say does not count
    inside : N < e.till → (x : Bool) → leb e.from (N + L) ≡ x → (r : ℕ) → grade_through es N (N + L) ≡ r
        → whole_fast (e ∷ es) p L (suc N) ≡ whole_fast (e ∷ es) p L N + more (leb p N) (grade_by (true && x) (leb e.low N && ltb (N + L) e.high) r)
    inside l true q r f =
        let i : whole_fast es e.till L (suc N) ≡ whole_fast es e.till L N = rw (lt-leb e.till N l) at ih ∙ omega arith in
        omega (arith, i, one_edge e p L N 0 refl l (leb p N) true (leb e.low N) (ltb (N + L) e.high) refl q refl refl, drop_rest (leb e.low N && ltb (N + L) e.high) r)
      where
        drop_rest : (w : Bool) (r : ℕ) → more (leb p N) (grade_by true w 0) ≡ more (leb p N) (grade_by true w r)
        drop_rest true r = refl
        drop_rest false r = refl
    inside l false q r f =
        let i : whole_fast es e.till L (suc N) ≡ whole_fast es e.till L N = rw (lt-leb e.till N l) at ih ∙ omega arith in
        let z : r ≡ 0 = sym f ∙ before_all es e.till N (N + L) a.3 (omega (arith, leb-false e.from (N + L) q)) in
        omega (arith, i, one_edge e p L N r z l (leb p N) false (leb e.low N) (ltb (N + L) e.high) refl q refl refl)

    go : (t : Bool) → ltb N e.till ≡ t → whole_fast (e ∷ es) p L (suc N) ≡ whole_fast (e ∷ es) p L N + more (leb p N) (grade_through (e ∷ es) N (N + L))
    go true q = rw q (inside (ltb-true N e.till q) (leb e.from (N + L)) refl (grade_through es N (N + L)) refl)
    go false q =
        let l : e.till ≤ N = ltb-false N e.till q in
        rw (q, le-leb p N (omega arith))
        (omega (arith, within_high (max (max p (e.from - L)) e.low) (min e.till (e.high - L)) N (omega arith), rw (le-leb e.till N l) at ih))

by_step : (es : List Edge) (p L N : ℕ) → EdgesAscend p es
    → whole_fast es p L (suc N) ≡ whole_fast es p L N + more (leb p N) (grade_through es N (N + L))
unfolding grade_through whole_fast
by_step [] p L N a = nothing (leb p N)
by_step (e ∷ es) p L N a = stepped e es p L N a (by_step es e.till L N a.3)

fast_zero : (es : List Edge) (p L : ℕ) → whole_fast es p L 0 ≡ 0
unfolding whole_fast
fast_zero [] p L = refl
fast_zero (e ∷ es) p L = omega (arith, within_zero (max (max p (e.from - L)) e.low) (min e.till (e.high - L)), fast_zero es e.till L)

pub whole_fast_lem : (es : List Edge) (L N : ℕ) → EdgesAscend 0 es → whole_fast es 0 L N ≡ count_starts one_whole es L N
unfolding count_starts
whole_fast_lem es L zero a = fast_zero es 0 L
whole_fast_lem es L (suc N) a =
    let s : whole_fast es 0 L (suc N) ≡ whole_fast es 0 L N + one_whole (grade_through es N (N + L)) = rw (le-leb 0 N (omega arith)) at (by_step es 0 L N a) in
    omega (arith, s, whole_fast_lem es L N a)
