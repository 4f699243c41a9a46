-- The test says what its plain words say, both ways.
use mathlib.Core.Path.{◌≡◌, refl, sym, ap, subst}
use mathlib.Core.Bool.{Bool, true, false}
use mathlib.Core.List.{List, [], ◌∷◌, ◌++◌}
use Prim.Native.Nat.{ℕ, ◌≤◌, ◌<◌}
use native.Mathlib.Omega.{arith}
use native.Mathlib.Nat.{le_trans}
use lib.Dec.{eqb}
use borrow.Author.Tests.{le-ltb, ne_eqb, eqb-true}
use Rattle.spec_base.proofs.base.Laws.{no!, pos_of}
use Rattle.spec_map.specs.declared.segment.Segment.{Segment}
use Rattle.spec_map.specs.segment.Segment.{source_of, output_start_of, source_end}
use Rattle.spec_ask.specs.ask_order.Ascending.{output_end, steps_back, after, ascends_from, ascends, Before, Ascending}
use Rattle.spec_ask.proofs.ask_order.Places.{step, after_empty, after_long, after_grows}
use Rattle.spec_ask.proofs.ask_order.AscendLaws.{back_1}

-- ---- the test holds: the plain words
behind : (pre : List Segment) (y : Segment) (post : List Segment) (s o : ℕ) → ascends_from s o (pre ++ y ∷ post) ≡ true → 0 < y.duration
    → (s ≤ source_of y) × (o ≤ output_start_of y)
behind [] y post s o w h = let z = step s o y post w in (z.source_after h, z.output_after h)
behind (x ∷ pre) y post s o w h =
    let z = step s o x (pre ++ y ∷ post) w in
    let r = behind pre y post (after x.duration s (source_end x)) (after x.duration o (output_end x)) z.rest h in (
      le_trans (after_grows x.duration s (source_end x) (λ k. omega (arith, z.source_after k))) r.0,
      le_trans (after_grows x.duration o (output_end x) (λ k. omega (arith, z.output_after k))) r.1,
    )

apart : (earlier between others : List Segment) (x y : Segment) (s o : ℕ) → ascends_from s o (earlier ++ x ∷ between ++ y ∷ others) ≡ true → 0 < x.duration → 0 < y.duration → Before x y
apart [] between others x y s o w hx hy =
    let z = step s o x (between ++ y ∷ others) w in
    let r = behind between y others (source_end x) (output_end x) (rw (after_long x.duration s (source_end x) hx, after_long x.duration o (output_end x) hx) at z.rest) hy in
    record { source = r.0; output = r.1 }
apart (v ∷ earlier) between others x y s o w hx hy =
    apart earlier between others x y (after v.duration s (source_end v)) (after v.duration o (output_end v)) (step s o v (earlier ++ x ∷ between ++ y ∷ others) w).rest hx hy

pub ascends_plain : (m : List Segment) → ascends m ≡ true → Ascending m
unfolding ascends
ascends_plain m w earlier between others x y p hx hy =
    apart earlier between others x y 0 0 (subst (λ (l : List Segment). ascends_from 0 0 l ≡ true) p w) hx hy

-- ---- and back
abbrev Behind : (s o : ℕ) → List Segment → Type 0
Behind s o m = (pre post : List Segment) (y : Segment) → m ≡ pre ++ y ∷ post → 0 < y.duration → (s ≤ source_of y) × (o ≤ output_start_of y)

at_long : (s o q p d : ℕ) → 0 < d → s ≤ q → o ≤ p → false ≡ steps_back s o q p d
unfolding steps_back
at_long s o q p d l a b = no! _ (ne_eqb d 0 (λ z. omega arith)) (no! _ (le-ltb q s a) (sym (le-ltb p o b)))

fine : (s o q p d : ℕ) → (0 < d → (s ≤ q) × (o ≤ p)) → false ≡ steps_back s o q p d
fine s o q p d h = go (eqb d 0) refl
  where
    go : (t : Bool) → eqb d 0 ≡ t → false ≡ steps_back s o q p d
    go true e = back_1 s o q p d (eqb-true d 0 e)
    go false e = long (pos_of d e)
      where
        long : 0 < d → false ≡ steps_back s o q p d
        long l = at_long s o q p d l (h l).0 (h l).1

tail : (x : Segment) (xs : List Segment) → Ascending (x ∷ xs) → Ascending xs
tail x xs a earlier between others y z p hy hz = a (x ∷ earlier) between others y z (ap (λ (l : List Segment). x ∷ l) p) hy hz

next : (s o : ℕ) (x : Segment) (xs : List Segment) → Behind s o (x ∷ xs) → Ascending (x ∷ xs)
    → Behind (after x.duration s (source_end x)) (after x.duration o (output_end x)) xs
next s o x xs b a pre post y p hy = go (eqb x.duration 0) refl
  where
    go : (t : Bool) → eqb x.duration 0 ≡ t → (after x.duration s (source_end x) ≤ source_of y) × (after x.duration o (output_end x) ≤ output_start_of y)
    go true e =
        let d0 = eqb-true x.duration 0 e in
        rw (after_empty x.duration s (source_end x) d0, after_empty x.duration o (output_end x) d0) (b (x ∷ pre) post y (ap (λ (l : List Segment). x ∷ l) p) hy)
    go false e =
        let l = pos_of x.duration e in
        let k = a [] pre post x y (ap (λ (l : List Segment). x ∷ l) p) l hy in
        rw (after_long x.duration s (source_end x) l, after_long x.duration o (output_end x) l) (k.source, k.output)

from_plain : (m : List Segment) (s o : ℕ) → Behind s o m → Ascending m → ascends_from s o m ≡ true
unfolding ascends_from
from_plain [] s o b a = refl
from_plain (x ∷ xs) s o b a =
    sym (no! _ (sym (fine s o (source_of x) (output_start_of x) x.duration (λ h. b [] xs x refl h)))
    (sym (from_plain xs (after x.duration s (source_end x)) (after x.duration o (output_end x)) (next s o x xs b a) (tail x xs a))))

pub plain_ascends : (m : List Segment) → Ascending m → ascends m ≡ true
unfolding ascends
plain_ascends m a = from_plain m 0 0 (λ pre post y p h. (omega arith, omega arith)) a
