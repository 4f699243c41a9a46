-- The count of kept captions by segments is the count by starts.
use Prim.Native.Nat.{ℕ, zero, suc, ◌+◌, ◌-◌, ◌≤◌, ◌<◌, max}
use mathlib.Core.Path.{◌≡◌, refl, ◌∙◌}
use mathlib.Core.Bool.{Bool, true, false, ◌&&◌}
use mathlib.Core.List.{List, [], ◌∷◌}
use native.Mathlib.Omega.{arith}
use borrow.Author.Tests.{le-leb, lt-leb, ltb-true, ltb-false, leb-true, leb-false}
use lib.Dec.{ltb, leb}
use Rattle.spec_ask.specs.declared.ask_edges.Edge.{Edge}
use Rattle.spec_ask.specs.ask_edges.Edge.{grade_by, grade_through}
use Rattle.spec_ask.specs.ask_edges.Count.{one_kept, count_starts, starts_in, kept_fast, EdgesAscend}

pub within_in : (lo hi N : ℕ) → lo ≤ N → N < hi → starts_in lo hi (suc N) ≡ suc (starts_in lo hi N)
unfolding starts_in
within_in lo hi N a b = omega arith

pub within_low : (lo hi N : ℕ) → N < lo → starts_in lo hi (suc N) ≡ starts_in lo hi N
unfolding starts_in
within_low lo hi N a = omega arith

pub within_high : (lo hi N : ℕ) → hi ≤ N → starts_in lo hi (suc N) ≡ starts_in lo hi N
unfolding starts_in
within_high lo hi N a = omega arith

pub within_zero : (lo hi : ℕ) → starts_in lo hi 0 ≡ 0
unfolding starts_in
within_zero lo hi = omega arith

-- a caption that ends before the first segment begins meets none
pub before_all : (es : List Edge) (p S E : ℕ) → EdgesAscend p es → E < p → grade_through es S E ≡ 0
unfolding grade_through
before_all [] p S E a h = refl
before_all (e ∷ es) p S E a h =
    let t : leb e.from E ≡ false = lt-leb e.from E (omega arith) in
    go (ltb S e.till) (leb e.from E) t (before_all es e.till S E a.3 (omega arith))
  where
    go : (x y : Bool) → y ≡ false → grade_through es S E ≡ 0 → grade_by (x && y) (leb e.low S && ltb E e.high) (grade_through es S E) ≡ 0
    go true y q r = rw q r
    go false y q r = r

-- one start more: it counts once where it is at or after p and is kept
abbrev more : (ok : Bool) → ℕ → ℕ
more true k = one_kept k
more false k = 0

stepped : (e : Edge) (es : List Edge) (p L N : ℕ) → EdgesAscend p (e ∷ es)
    → kept_fast es e.till L (suc N) ≡ kept_fast es e.till L N + more (leb e.till N) (grade_through es N (N + L))
    → kept_fast (e ∷ es) p L (suc N) ≡ kept_fast (e ∷ es) p L N + more (leb p N) (grade_through (e ∷ es) N (N + L))
unfolding grade_through kept_fast
stepped e es p L N a ih = go (ltb N e.till) refl
  where
    w : Bool
    w = leb e.low N && ltb (N + L) e.high

    met : (v : Bool) → one_kept (grade_by true v (grade_through es N (N + L))) ≡ 1
    met true = refl
    met false = refl

    -- N is below the end: the later segments count nothing
    inside : N < e.till → (x : Bool) → leb e.from (N + L) ≡ x → (y : Bool) → leb p N ≡ y
        → starts_in (max p (e.from - L)) e.till (suc N) + kept_fast es e.till L (suc N)
        ≡ starts_in (max p (e.from - L)) e.till N + kept_fast es e.till L N + more y (grade_by (true && x) w (grade_through es N (N + L)))
    inside l true q true r =
        let i : kept_fast es e.till L (suc N) ≡ kept_fast es e.till L N = rw (lt-leb e.till N l) at ih ∙ omega arith in
        omega (arith, i, met w, within_in (max p (e.from - L)) e.till N (omega (arith, leb-true e.from (N + L) q, leb-true p N r)) l)
    inside l true q false r =
        let i : kept_fast es e.till L (suc N) ≡ kept_fast es e.till L N = rw (lt-leb e.till N l) at ih ∙ omega arith in
        omega (arith, i, within_low (max p (e.from - L)) e.till N (omega (arith, leb-false p N r)))
    inside l false q y r =
        let i : kept_fast es e.till L (suc N) ≡ kept_fast es e.till L N = rw (lt-leb e.till N l) at ih ∙ omega arith in
        let z : grade_through es N (N + L) ≡ 0 = before_all es e.till N (N + L) a.3 (omega (arith, leb-false e.from (N + L) q)) in
        let k : more y (grade_through es N (N + L)) ≡ 0 = none y z in
        omega (arith, i, k, within_low (max p (e.from - L)) e.till N (omega (arith, leb-false e.from (N + L) q)))
      where
        none : (y : Bool) → grade_through es N (N + L) ≡ 0 → more y (grade_through es N (N + L)) ≡ 0
        none true z = rw z
        none false z = refl

    go : (t : Bool) → ltb N e.till ≡ t → kept_fast (e ∷ es) p L (suc N) ≡ kept_fast (e ∷ es) p L N + more (leb p N) (grade_through (e ∷ es) N (N + L))
    go true q = rw q (inside (ltb-true N e.till q) (leb e.from (N + L)) refl (leb p N) refl)
    go false q =
        let l : e.till ≤ N = ltb-false N e.till q in
        rw (q, le-leb p N (omega arith))
        (omega (arith, within_high (max p (e.from - L)) e.till N l, rw (le-leb e.till N l) at ih))

by_step : (es : List Edge) (p L N : ℕ) → EdgesAscend p es
    → kept_fast es p L (suc N) ≡ kept_fast es p L N + more (leb p N) (grade_through es N (N + L))
unfolding grade_through kept_fast
by_step [] p L N a = nothing (leb p N)
  where
    nothing : (y : Bool) → 0 ≡ 0 + more y 0
    nothing true = refl
    nothing false = refl
by_step (e ∷ es) p L N a = stepped e es p L N a (by_step es e.till L N a.3)

fast_zero : (es : List Edge) (p L : ℕ) → kept_fast es p L 0 ≡ 0
unfolding kept_fast
fast_zero [] p L = refl
fast_zero (e ∷ es) p L = omega (arith, within_zero (max p (e.from - L)) e.till, fast_zero es e.till L)

pub kept_fast_lem : (es : List Edge) (L N : ℕ) → EdgesAscend 0 es → kept_fast es 0 L N ≡ count_starts one_kept es L N
unfolding count_starts
kept_fast_lem es L zero a = fast_zero es 0 L
kept_fast_lem es L (suc N) a =
    let s : kept_fast es 0 L (suc N) ≡ kept_fast es 0 L N + one_kept (grade_through es N (N + L)) = rw (le-leb 0 N (omega arith)) at (by_step es 0 L N a) in
    omega (arith, s, kept_fast_lem es L N a)
