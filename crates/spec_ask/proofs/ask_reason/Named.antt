-- The segment that is named is the first that is met, at its place in the list.
use mathlib.Core.Path.{◌≡◌, refl, sym, ap, subst, ◌∙◌}
use mathlib.Core.Bool.{Bool, true, false}
use mathlib.Core.List.Memᴰ
use mathlib.Core.List.{List, [], ◌∷◌, ◌++◌}
use Prim.Native.Nat.{ℕ, suc, ◌+◌}
use native.Mathlib.Omega.{arith}
use lib.ListN.{length}
use Rattle.spec_map.specs.declared.segment.Segment.{Segment}
use Rattle.spec_caption.specs.caption_fate.Hit.{meets, Found, miss, hit, find_from, find_hit}
use Rattle.spec_caption.specs.caption_fate.Fates.{Meets, NoneMeets, FirstMet}
use Rattle.spec_caption.proofs.caption_fate.FateLaws.{met, HitRight, find_right, meets_true}

meets_false : (x : Segment) (a b : ℕ) → (Meets x a b → ⊥) → meets x a b ≡ false
meets_false x a b n = go (meets x a b) refl
  where
    go : (t : Bool) → meets x a b ≡ t → t ≡ false
    go true e = absurd (n (met x a b e))
    go false e = refl

-- where the segments before x are not met and x is, the place of the hit is behind them
place_behind : (i : ℕ) (before others : List Segment) (x : Segment) (a b k : ℕ) (y : Segment) (ys : List Segment) → NoneMeets before a b → Meets x a b
    → find_from i (before ++ x ∷ others) a b ≡ hit k y ys → i + length before ≡ k
unfolding find_from
place_behind i [] others x a b k y ys none m e =
    let p : hit i x others ≡ hit k y ys = rw (meets_true x a b m) at e in
    let q : i ≡ k = ap (λ (f : Found). elim f [ miss ↦ 0 | hit j z zs ↦ j ]) p in
    omega (arith, q)
place_behind i (z ∷ zs) others x a b k y ys none m e =
    let p : find_from (suc i) (zs ++ x ∷ others) a b ≡ hit k y ys = rw (meets_false z a b (none z (Memᴰ.head refl))) at e in
    let q = place_behind (suc i) zs others x a b k y ys (λ w j. none w (Memᴰ.tail j)) m p in
    omega (arith, q)

-- the hit is the first that is met, and its place is as many as stand before it
pub hit_first : (m : List Segment) (a b k : ℕ) (x : Segment) (xs : List Segment) → find_hit m a b ≡ hit k x xs → FirstMet m a b x
hit_first m a b k x xs e = subst (HitRight m a b) e (find_right 0 m a b)

pub first_named : (m : List Segment) (a b k : ℕ) (x : Segment) (xs : List Segment) → find_hit m a b ≡ hit k x xs → (f : FirstMet m a b x) → length f.earlier ≡ k
first_named m a b k x xs e f =
    let p = place_behind 0 f.earlier f.others x a b k x xs f.none_earlier f.met (ap (λ (l : List Segment). find_hit l a b) (sym f.stands) ∙ e) in
    omega (arith, p)
