-- Laws of snapping: the two directions, and a list of ranges moved one by one or tested one by one.
use mathlib.Core.Path.{◌≡◌, refl, sym, ap, ◌∙◌}
use mathlib.Core.List.{List, [], ◌∷◌}
use Prim.Native.Nat.{ℕ, zero, suc, ◌+◌, ◌-◌, ◌*◌, ◌≤◌, ◌<◌}
use native.Mathlib.Omega.{arith}
use borrow.Author.Tests.{le-leb, lt-leb}
use lib.ListN.{length, take, get_or, set, length-take}
use lib.Seq.{sets}
use Rattle.spec_base.specs.base.Refusal.{◌or_else◌, fault_unless}
use Rattle.spec_base.specs.base.Put.{put}
use Rattle.spec_base.proofs.base.PutLaws.{sets_put}
use Rattle.spec_trim.specs.plan.Snap.{floor_sync, ceil_sync, snap_start, snap_end, snap_all, overlaps_fault}
use Rattle.spec_trim.proofs.plan.PairLaws.{left_of, pairs_start, left_cut, left_short, pairs_done, left_stored, left_same}

-- ---- the two directions: r is what the search found
start_out : (s : List ℕ) (n d a r : ℕ) → r ≡ floor_sync s n a → d ≡ 0 → r ≡ snap_start s n d a
unfolding snap_start
start_out s n d a r q e = rw e q

start_in : (s : List ℕ) (n d a r : ℕ) → r ≡ ceil_sync s n a → (d ≡ 0 → ⊥) → r ≡ snap_start s n d a
unfolding snap_start
start_in s n zero a r q h = absurd (h refl)
start_in s n (suc d) a r q h = q

end_out : (s : List ℕ) (n d a r : ℕ) → r ≡ ceil_sync s n a → d ≡ 0 → r ≡ snap_end s n d a
unfolding snap_end
end_out s n d a r q e = rw e q

end_in_lem : (s : List ℕ) (n d a r : ℕ) → r ≡ floor_sync s n a → (d ≡ 0 → ⊥) → r ≡ snap_end s n d a
unfolding snap_end
end_in_lem s n zero a r q h = absurd (h refl)
end_in_lem s n (suc d) a r q h = q

-- both ends of a range stored: a is what was found for its start x, b for its end y
module _ (l : List ℕ) (at : ℕ) (s : List ℕ) (n d x y a b : ℕ) where
  stored_both : a ≡ snap_start s n d x → b ≡ snap_end s n d y → set (set l at a) (at + 1) b ≡ set (set l at (snap_start s n d x)) (at + 1) (snap_end s n d y)
  stored_both p q = rw (p, q)

  pub stored_out : a ≡ floor_sync s n x → b ≡ ceil_sync s n y → d ≡ 0 → set (set l at a) (at + 1) b ≡ set (set l at (snap_start s n d x)) (at + 1) (snap_end s n d y)
  stored_out p q e = stored_both (start_out s n d x a p e) (end_out s n d y b q e)

  pub stored_in : a ≡ ceil_sync s n x → b ≡ floor_sync s n y → (d ≡ 0 → ⊥) → set (set l at a) (at + 1) b ≡ set (set l at (snap_start s n d x)) (at + 1) (snap_end s n d y)
  stored_in p q h = stored_both (start_in s n d x a p h) (end_in_lem s n d y b q h)

-- ---- a list of ranges
module _ (s : List ℕ) (n d : ℕ) where
  pub snap_short : (l : List ℕ) → length l < 2 → snap_all s n d l ≡ l
  unfolding snap_all
  snap_short [] h = refl
  snap_short (a ∷ []) h = refl
  snap_short (a ∷ e ∷ r) h = absurd (omega arith)

  pub snap_cut : (a e : ℕ) (r : List ℕ) → snap_all s n d (a ∷ e ∷ r) ≡ snap_start s n d a ∷ snap_end s n d e ∷ snap_all s n d r
  unfolding snap_all
  snap_cut a e r = refl

  pub snap_length : (l : List ℕ) → length (snap_all s n d l) ≡ length l
  unfolding snap_all
  snap_length [] = refl
  snap_length (a ∷ []) = refl
  snap_length (a ∷ e ∷ r) = ap (λ (k : ℕ). suc (suc k)) (snap_length r)

  -- the loop: l₀ at first, l now; what is left to store makes the whole
  abbrev pub Snapping : (l₀ l : List ℕ) (count i : ℕ) → Type 0
  Snapping l₀ l count i = sets l₀ 0 (snap_all s n d (take (2 * count) l₀)) ≡ sets l (2 * i) (snap_all s n d (left_of l count i))

  pub snapping_start : (l : List ℕ) (count : ℕ) → Snapping l l count 0
  snapping_start l count = sym (ap (λ (u : List ℕ). sets l 0 (snap_all s n d u)) (pairs_start l count))

  snapping_end : (l₀ l : List ℕ) (count i : ℕ) → Snapping l₀ l count i → length (left_of l count i) < 2 → l ≡ put (snap_all s n d (take (2 * count) l₀)) l₀
  snapping_end l₀ l count i inv h =
      let k : length (snap_all s n d (take (2 * count) l₀)) ≤ length l₀ = omega (arith, snap_length (take (2 * count) l₀), length-take (2 * count) l₀) in
      sym (sym (sets_put (snap_all s n d (take (2 * count) l₀)) l₀ k) ∙ inv ∙ ap (sets l (2 * i)) (snap_short (left_of l count i) h) ∙ left_same l count i)

  pub snapping_short : (l₀ l : List ℕ) (count i : ℕ) → Snapping l₀ l count i → 2 * i ≤ length l → length l - 2 * i < 2 → l ≡ put (snap_all s n d (take (2 * count) l₀)) l₀
  snapping_short l₀ l count i inv h k = snapping_end l₀ l count i inv (left_short l count i (omega arith))

  pub snapping_done : (l₀ l : List ℕ) (count i : ℕ) → Snapping l₀ l count i → count ≤ i → l ≡ put (snap_all s n d (take (2 * count) l₀)) l₀
  snapping_done l₀ l count i inv h = snapping_end l₀ l count i inv (rw (pairs_done l count i h) (omega arith))

  pub snapping_next : (l₀ l m : List ℕ) (count i : ℕ) → Snapping l₀ l count i → i < count → 2 * i ≤ length l → 2 ≤ length l - 2 * i
      → m ≡ set (set l (2 * i) (snap_start s n d (get_or l (2 * i) 0))) (2 * i + 1) (snap_end s n d (get_or l (2 * i + 1) 0))
      → Snapping l₀ m count (i + 1)
  snapping_next l₀ l m count i inv h j k e =
      let x : ℕ = snap_start s n d (get_or l (2 * i) 0) in
      let y : ℕ = snap_end s n d (get_or l (2 * i + 1) 0) in
      let p : 2 * i + 1 ≡ suc (2 * i) = omega arith in
      let q : suc (suc (2 * i)) ≡ 2 * (i + 1) = omega arith in
      let t : List ℕ = snap_all s n d (left_of l count (i + 1)) in
      inv
      ∙ ap (λ (u : List ℕ). sets l (2 * i) (snap_all s n d u)) (left_cut l count i h (omega arith))
      ∙ ap (sets l (2 * i)) (snap_cut (get_or l (2 * i) 0) (get_or l (2 * i + 1) 0) (left_of l count (i + 1)))
      ∙ ap (λ (z : ℕ). sets (set (set l (2 * i) x) z y) (suc (suc (2 * i))) t) (sym p)
      ∙ ap (λ (z : List ℕ). sets z (suc (suc (2 * i))) t) (sym e)
      ∙ ap (λ (z : ℕ). sets m z t) q
      ∙ ap (λ (u : List ℕ). sets m (2 * (i + 1)) (snap_all s n d u)) (sym (left_stored l count i x y) ∙ ap (λ (z : List ℕ). left_of z count (i + 1)) (sym e))

-- ---- ranges that overlap: p is the end of the range before
pub overlap_none : (p : ℕ) (l : List ℕ) → length l < 2 → overlaps_fault p l ≡ 0
unfolding overlaps_fault
overlap_none p [] h = refl
overlap_none p (a ∷ []) h = refl
overlap_none p (a ∷ e ∷ r) h = absurd (omega arith)

pub overlap_here : (p a e : ℕ) (r : List ℕ) → a < p → overlaps_fault p (a ∷ e ∷ r) ≡ 8
unfolding overlaps_fault fault_unless ◌or_else◌
overlap_here p a e r h = rw (lt-leb p a h)

pub overlap_next : (p a e : ℕ) (r : List ℕ) → p ≤ a → overlaps_fault p (a ∷ e ∷ r) ≡ overlaps_fault e r
unfolding overlaps_fault fault_unless ◌or_else◌
overlap_next p a e r h = rw (le-leb p a h)

-- the loop: what is left of the test is the whole answer v
pub crossing_start : (l : List ℕ) (count : ℕ) → overlaps_fault 0 (left_of l count 0) ≡ overlaps_fault 0 (take (2 * count) l)
crossing_start l count = ap (overlaps_fault 0) (pairs_start l count)

module _ (l : List ℕ) (count i p v : ℕ) (inv : overlaps_fault p (left_of l count i) ≡ v) where
  pub crossing_short : 2 * i ≤ length l → length l - 2 * i < 2 → 0 ≡ v
  crossing_short h k = sym (overlap_none p (left_of l count i) (left_short l count i (omega arith))) ∙ inv

  pub crossing_done : count ≤ i → 0 ≡ v
  crossing_done h = sym (overlap_none p (left_of l count i) (rw (pairs_done l count i h) (omega arith))) ∙ inv

  module _ (h : i < count) (j : 2 * i ≤ length l) (k : 2 ≤ length l - 2 * i) where
    pub crossing_here : get_or l (2 * i) 0 < p → 8 ≡ v
    crossing_here b = sym (ap (overlaps_fault p) (left_cut l count i h (omega arith)) ∙ overlap_here p (get_or l (2 * i) 0) (get_or l (2 * i + 1) 0) (left_of l count (i + 1)) b) ∙ inv

    pub crossing_next : p ≤ get_or l (2 * i) 0 → overlaps_fault (get_or l (2 * i + 1) 0) (left_of l count (i + 1)) ≡ v
    crossing_next b = sym (ap (overlaps_fault p) (left_cut l count i h (omega arith)) ∙ overlap_next p (get_or l (2 * i) 0) (get_or l (2 * i + 1) 0) (left_of l count (i + 1)) b) ∙ inv
