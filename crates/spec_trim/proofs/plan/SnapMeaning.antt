-- What snapping means in plain words, and how large what it gives can be.
use mathlib.Core.Path.{◌≡◌, refl, sym, subst, ◌∙◌}
use mathlib.Core.Bool.{Bool, true, false, cond, true≢false}
use mathlib.Core.Logic.{◌⊎◌, inl, inr, ⊎_elim}
use mathlib.Core.List.{List, [], ◌∷◌}
use Prim.Native.Nat.{ℕ, zero, suc, ◌+◌, ◌-◌, ◌*◌, ◌≤◌, ◌<◌, min}
use native.Mathlib.Omega.{arith}
use native.Mathlib.Nat.{eq-or-lt_of_le}
use borrow.Author.Tests.{leb-true}
use lib.Dec.{leb}
use lib.ListN.{length}
use Rattle.spec_base.specs.base.Refusal.{fault_unless}
use Rattle.spec_base.proofs.base.RefusalLaws.{held, else_zero}
use Rattle.spec_sheet.specs.sheet_frames.Frames.{sync_of}
use Rattle.spec_base.proofs.base.RefusalNumbers.{else_numbers, unless_numbers}
use Rattle.spec_trim.specs.plan.Snap.{last_below, first_from, floor_sync, ceil_sync, snap_start, snap_end, snap_all, overlaps_fault}

-- ---- the two searches
module _ (s : List ℕ) where
  -- no sync frame from i up to e, e excluded
  abbrev pub NoSync : ℕ → ℕ → Type 0
  NoSync i e = (j : ℕ) → i ≤ j → j < e → sync_of s j ≡ false

  -- r is the last sync frame below k, or 0 where there is none
  abbrev pub LastSync : (k r : ℕ) → Type 0
  LastSync k r = ((sync_of s r ≡ true) × (r < k) × NoSync (suc r) k) ⊎ ((r ≡ 0) × NoSync 0 k)

  -- r is the first sync frame from i up to e, e excluded, or e where there is none
  abbrev pub FirstSync : (i e r : ℕ) → Type 0
  FirstSync i e r = ((sync_of s r ≡ true) × (i ≤ r) × (r < e) × NoSync i r) ⊎ ((r ≡ e) × NoSync i e)

  no_sync_more : (i e : ℕ) → NoSync i e → sync_of s e ≡ false → NoSync i (suc e)
  no_sync_more i e h f j a b = ⊎_elim (λ q. subst (λ (x : ℕ). sync_of s x ≡ false) (sym q) f) (λ l. h j a l) (eq-or-lt_of_le {n = j} {m = e} (omega arith))

  no_sync_before : (i e : ℕ) → NoSync (suc i) e → sync_of s i ≡ false → NoSync i e
  no_sync_before i e h f j a b = ⊎_elim (λ q. subst (λ (x : ℕ). sync_of s x ≡ false) q f) (λ l. h j l b) (eq-or-lt_of_le {n = i} {m = j} a)

  last_is : (k : ℕ) → LastSync k (last_below s k)
  unfolding last_below
  last_is zero = inr (refl, λ j a b. absurd (omega arith))
  last_is (suc k) = go (sync_of s k) refl (last_is k)
    where
      go : (t : Bool) → sync_of s k ≡ t → LastSync k (last_below s k) → LastSync (suc k) (cond t k (last_below s k))
      go true e ih = inl (e, omega arith, λ j a b. absurd (omega arith))
      go false e ih =
          ⊎_elim
          (λ h. inl (h.0, omega (arith, h.1), no_sync_more (suc (last_below s k)) k h.2 e))
          (λ h. inr (h.0, no_sync_more 0 k h.1 e))
          ih

  first_is : (k i : ℕ) → FirstSync i (i + k) (first_from s i k)
  unfolding first_from
  first_is zero i = inr (omega arith, λ j a b. absurd (omega arith))
  first_is (suc k) i = go (sync_of s i) refl (first_is k (suc i))
    where
      go : (t : Bool) → sync_of s i ≡ t → FirstSync (suc i) (suc i + k) (first_from s (suc i) k) → FirstSync i (i + suc k) (cond t i (first_from s (suc i) k))
      go true e ih = inl (e, omega arith, omega arith, λ j a b. absurd (omega arith))
      go false e ih =
          let q : suc i + k ≡ i + suc k = omega arith in
          ⊎_elim
          (λ h. inl (h.0, omega (arith, h.1), omega (arith, h.2), no_sync_before i (first_from s (suc i) k) h.3 e))
          (λ h. inr (h.0 ∙ q, no_sync_before i (i + suc k) (subst (NoSync (suc i)) q h.1) e))
          ih

  -- no two numbers are both
  apart : (j : ℕ) → sync_of s j ≡ true → sync_of s j ≡ false → ⊥
  apart j a b = true≢false (sym a ∙ b)

  equal_if : (a b : ℕ) → (a < b → ⊥) → (b < a → ⊥) → a ≡ b
  equal_if a b h k = omega arith

  last_one : (k a b : ℕ) → LastSync k a → LastSync k b → a ≡ b
  last_one k a b (inl h) (inl g) =
      equal_if a b (λ l. apart b g.0 (h.2 b l g.1)) (λ l. apart a h.0 (g.2 a l h.1))
  last_one k a b (inl h) (inr g) = absurd (apart a h.0 (g.1 a (omega arith) h.1))
  last_one k a b (inr h) (inl g) = absurd (apart b g.0 (h.1 b (omega arith) g.1))
  last_one k a b (inr h) (inr g) = h.0 ∙ sym g.0

  first_one : (i e a b : ℕ) → FirstSync i e a → FirstSync i e b → a ≡ b
  first_one i e a b (inl h) (inl g) =
      equal_if a b (λ l. apart a h.0 (g.3 a h.1 l)) (λ l. apart b g.0 (h.3 b g.1 l))
  first_one i e a b (inl h) (inr g) = absurd (apart a h.0 (g.1 a h.1 h.2))
  first_one i e a b (inr h) (inl g) = absurd (apart b g.0 (h.1 b g.1 g.2))
  first_one i e a b (inr h) (inr g) = h.0 ∙ sym g.0

  -- ---- of n frames: the last sync frame at or before x, else 0; the first at or after x, else n
  module _ (n x : ℕ) where
    pub floor_is : LastSync (min (x + 1) n) (floor_sync s n x)
    unfolding floor_sync
    floor_is = last_is (min (x + 1) n)

    pub floor_only : (r : ℕ) → LastSync (min (x + 1) n) r → r ≡ floor_sync s n x
    floor_only r h = last_one (min (x + 1) n) r (floor_sync s n x) h floor_is

    pub ceil_is : FirstSync (min x n) n (ceil_sync s n x)
    unfolding ceil_sync
    ceil_is =
        let q : min x n + (n - x) ≡ n = omega arith in
        subst (λ (e : ℕ). FirstSync (min x n) e (first_from s (min x n) (n - x))) q (first_is (n - x) (min x n))

    pub ceil_only : (r : ℕ) → FirstSync (min x n) n r → r ≡ ceil_sync s n x
    ceil_only r h = first_one (min x n) n r (ceil_sync s n x) h ceil_is

    -- how large they are
    pub floor_most : floor_sync s n x ≤ n
    floor_most = ⊎_elim (λ h. omega (arith, h.1)) (λ h. omega (arith, h.0)) floor_is

    pub floor_back : floor_sync s n x ≤ x
    floor_back = ⊎_elim (λ h. omega (arith, h.1)) (λ h. omega (arith, h.0)) floor_is

    pub ceil_most : ceil_sync s n x ≤ n
    ceil_most = ⊎_elim (λ h. omega (arith, h.2)) (λ h. omega (arith, h.0)) ceil_is

    pub ceil_on : x ≤ n → x ≤ ceil_sync s n x
    ceil_on l = ⊎_elim (λ h. omega (arith, h.1)) (λ h. omega (arith, h.0)) ceil_is

-- ---- a list of ranges
-- no number of it is above n
abbrev pub Bounded : ℕ → List ℕ → Type 0
Bounded n [] = Unit
Bounded n (a ∷ r) = (a ≤ n) × Bounded n r

module _ (s : List ℕ) (n : ℕ) where
  pub start_most : (d a : ℕ) → snap_start s n d a ≤ n
  unfolding snap_start
  start_most zero a = floor_most s n a
  start_most (suc d) a = ceil_most s n a

  pub end_most : (d e : ℕ) → snap_end s n d e ≤ n
  unfolding snap_end
  end_most zero e = ceil_most s n e
  end_most (suc d) e = floor_most s n e

  -- a list of whole ranges, once they are moved
  pub snap_bounded : (d k : ℕ) (l : List ℕ) → length l ≡ 2 * k → Bounded n (snap_all s n d l)
  unfolding snap_all
  snap_bounded d k [] h = tt
  snap_bounded d k (a ∷ []) h = absurd (omega arith)
  snap_bounded d k (a ∷ e ∷ r) h = (start_most d a, (end_most d e, snap_bounded d (k - 1) r (omega arith)))

-- ---- overlap: the numbers of its refusal, and what none of it says of the first range
abbrev pub OverlapNumber : ℕ → Type 0
OverlapNumber k = (k ≡ 0) ⊎ (k ≡ 8)

pub overlap_numbers : (p : ℕ) (l : List ℕ) → OverlapNumber (overlaps_fault p l)
unfolding overlaps_fault
overlap_numbers p [] = inl refl
overlap_numbers p (a ∷ []) = inl refl
overlap_numbers p (a ∷ e ∷ r) =
    else_numbers OverlapNumber (fault_unless (leb p a) 8) (overlaps_fault e r) (unless_numbers OverlapNumber (inl refl) (leb p a) 8 (inr refl)) (overlap_numbers e r)

pub overlap_apart : (p a e : ℕ) (r : List ℕ) → overlaps_fault p (a ∷ e ∷ r) ≡ 0 → (p ≤ a) × (overlaps_fault e r ≡ 0)
unfolding overlaps_fault
overlap_apart p a e r z =
    let h = else_zero _ _ z in
    (leb-true p a (held _ 8 (omega arith) h.0), h.1)
