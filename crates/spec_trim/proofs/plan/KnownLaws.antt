-- What the sync frame of one boundary says of another: nothing between the two is looked at twice.
use Prim.Native.Nat.{ℕ, ◌+◌, ◌-◌, ◌≤◌, ◌<◌, min}
use mathlib.Core.Bool.{Bool, true, false}
use mathlib.Core.List.{List}
use mathlib.Core.Logic.{inl, inr}
use mathlib.Core.Path.{◌≡◌, sym, ap, subst, ◌∙◌}
use native.Mathlib.Omega.{arith}
use Rattle.spec_sheet.specs.sheet_frames.Frames.{sync_of}
use Rattle.spec_trim.specs.plan.Snap.{last_below, floor_sync, ceil_sync}
use Rattle.spec_trim.proofs.plan.SyncLaws.{below_here, below_next}
use Rattle.spec_trim.proofs.plan.SnapMeaning.{FirstSync, floor_back, ceil_is, ceil_only, ceil_most, ceil_on}

-- ---- known of every sheet
pub floor_of_first : (s : List ℕ) (n x r : ℕ) → x ≡ 0 → r ≡ 0 → r ≡ floor_sync s n x
floor_of_first s n x r e f = omega (arith, floor_back s n x)

pub ceil_of_end : (s : List ℕ) (n x r : ℕ) → x ≡ n → r ≡ n → r ≡ ceil_sync s n x
ceil_of_end s n x r e f = omega (arith, ceil_most s n x, ceil_on s n x (omega arith))

-- ---- the same boundary told in two ways
pub floor_told : (s : List ℕ) (n x y r : ℕ) → y ≡ x → r ≡ floor_sync s n x → r ≡ floor_sync s n y
floor_told s n x y r e f = f ∙ sym (ap (floor_sync s n) e)

pub ceil_told : (s : List ℕ) (n x y r : ℕ) → y ≡ x → r ≡ ceil_sync s n x → r ≡ ceil_sync s n y
ceil_told s n x y r e f = f ∙ sym (ap (ceil_sync s n) e)

-- ---- down from x to the boundary y below it: k of the first top frames are left, and `low` of them are at or before y
floor_top : (s : List ℕ) (n x top : ℕ) → top ≡ min (x + 1) n → last_below s top ≡ floor_sync s n x
unfolding floor_sync
floor_top s n x top e = ap (last_below s) e

module _ (s : List ℕ) (n x k top low : ℕ) (inv : last_below s k ≡ last_below s top) where
  pub floor_found : (t : Bool) → top ≡ min (x + 1) n → low < k → t ≡ sync_of s (k - 1) → t ≡ true → k - 1 ≡ floor_sync s n x
  floor_found t e l f h = below_here s k (omega arith) (sym f ∙ h) ∙ inv ∙ floor_top s n x top e

  pub floor_again : (t : Bool) → low < k → t ≡ sync_of s (k - 1) → t ≡ false → last_below s (k - 1) ≡ last_below s top
  floor_again t l f h = below_next s k (omega arith) (sym f ∙ h) ∙ inv

  -- none is found: that of y, r
  pub floor_kept : (y r : ℕ) → top ≡ min (x + 1) n → low ≤ k → k ≤ low → low ≡ min (y + 1) n → r ≡ floor_sync s n y → r ≡ floor_sync s n x
  floor_kept y r e h j f g =
      let q : low ≡ k = omega arith in
      g ∙ sym (floor_top s n y low f) ∙ ap (last_below s) q ∙ inv ∙ floor_top s n x top e

-- ---- up: from y on there is no sync frame below r, and so none from x on, where x lies between
pub ceil_kept : (s : List ℕ) (n x y r : ℕ) → r ≡ ceil_sync s n y → y ≤ x → x ≤ r → r ≡ ceil_sync s n x
ceil_kept s n x y r e h k = ceil_only s n x r (go (subst (FirstSync s (min y n) n) (sym e) (ceil_is s n y)))
  where
    go : FirstSync s (min y n) n r → FirstSync s (min x n) n r
    go (inl f) = inl (f.0, omega arith, f.2, λ j a b. f.3 j (omega arith) b)
    go (inr f) = inr (f.0, λ j a b. f.1 j (omega arith) b)
