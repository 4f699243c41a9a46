-- An earlier start and a later end keep what was kept, through any map.
use mathlib.Core.Path.{◌≡◌, refl}
use mathlib.Core.Bool.{Bool, true, false, cond}
use mathlib.Core.List.{List, [], ◌∷◌}
use Prim.Native.Nat.{ℕ, suc, ◌≤◌}
use native.Mathlib.Omega.{arith}
use borrow.Author.Tests.{lt-ltb}
use Rattle.spec_map.specs.declared.segment.Segment.{Segment}
use Rattle.spec_map.specs.segment.Segment.{source_of, source_end}
use Rattle.spec_caption.specs.caption_fate.Hit.{meets_parts, meets, hit, find_from}
use Rattle.spec_caption.proofs.caption_fate.FateLaws.{met}
use Rattle.spec_ask.specs.ask_rough.Rough.{found, kept_at}

module _ (a b a' b' : ℕ) (h : a' ≤ a) (k : b ≤ b') where
  meets_wider : (x : Segment) → meets x a b ≡ true → meets x a' b' ≡ true
  unfolding meets_parts
  meets_wider x e =
      let z = met x a b e in
      rw (lt-ltb 0 x.duration z.long, lt-ltb a' (source_end x) (omega (arith, z.later)), lt-ltb (source_of x) b' (omega (arith, z.sooner)))

  pub found_wider : (i : ℕ) (m : List Segment) → found (find_from i m a b) ≡ true → found (find_from i m a' b') ≡ true
  unfolding find_from
  found_wider i [] e = e
  found_wider i (x ∷ xs) e = go (meets x a b) refl e (λ r. found_wider (suc i) xs r)
    where
      later : (y : Bool) → found (find_from (suc i) xs a' b') ≡ true → found (cond y (hit i x xs) (find_from (suc i) xs a' b')) ≡ true
      later true q = refl
      later false q = q

      go : (y : Bool) → meets x a b ≡ y → found (cond y (hit i x xs) (find_from (suc i) xs a b)) ≡ true
          → (found (find_from (suc i) xs a b) ≡ true → found (find_from (suc i) xs a' b') ≡ true)
          → found (cond (meets x a' b') (hit i x xs) (find_from (suc i) xs a' b')) ≡ true
      go true q r ih = rw (meets_wider x q)
      go false q r ih = later (meets x a' b') (ih r)

  pub kept_wider : (m : List Segment) → kept_at m a b ≡ true → kept_at m a' b' ≡ true
  unfolding kept_at
  kept_wider m e = found_wider 0 m e
