-- Laws of the numbers of snapped ranges, and of their segments built apart and copied.
use mathlib.Core.Path.{◌≡◌, sym, ap, ◌∙◌}
use mathlib.Core.List.{List, [], ◌∷◌}
use Prim.Native.Nat.{ℕ, ◌+◌, ◌-◌, ◌*◌, ◌≤◌, ◌<◌}
use native.Mathlib.Omega.{arith}
use lib.Dec.{leb}
use borrow.Author.Tests.{le-leb, lt-leb}
use lib.ListN.{length, take}
use lib.Seq.{length-take-le}
use Rattle.spec_base.specs.base.Limits.{most_ticks}
use Rattle.spec_base.specs.base.Put.{put}
use Rattle.spec_base.specs.base.Refusal.{fault_unless}
use Rattle.spec_base.proofs.base.PutLaws.{take_put}
use Rattle.spec_base.proofs.base.RefusalLaws.{else_here, else_next, unless_held, unless_failed}
use Rattle.spec_trim.specs.plan.Snap.{overlaps_fault}
use Rattle.spec_map.specs.declared.segment.Segment.{Segment}
use Rattle.spec_map.proofs.segment.SegmentLaws.{flat_length}
use Rattle.spec_map.specs.segment.Segment.{flat_of}
use Rattle.spec_map.specs.segmap.Build.{range_ticks, kept_ticks, ranges_fault, kept_number, segments_in}

-- ---- the number: f the overlap's, g that of the ranges, t their durations together
module _ (s : List ℕ) (n : ℕ) (l : List ℕ) (f : ℕ) (ef : f ≡ overlaps_fault 0 l) where
  pub kept_overlap : (f ≡ 0 → ⊥) → f ≡ kept_number s n l
  unfolding kept_number
  kept_overlap h = else_here _ _ f ef h

  module _ (zf : f ≡ 0) (g : ℕ) (eg : g ≡ ranges_fault s n l) where
    pub kept_range : (g ≡ 0 → ⊥) → g ≡ kept_number s n l
    unfolding kept_number
    kept_range h = else_next _ _ f g ef zf (else_here _ _ g eg h)

    module _ (zg : g ≡ 0) (t : ℕ) (et : t ≡ kept_ticks s l) where
      sum_number : (v : ℕ) → v ≡ fault_unless (leb (kept_ticks s l) most_ticks) 26 → v ≡ kept_number s n l
      unfolding kept_number
      sum_number v q = else_next _ _ f v ef zf (else_next _ _ g v eg zg q)

      pub kept_over : most_ticks < t → 26 ≡ kept_number s n l
      kept_over h = sum_number 26 (sym (unless_failed 26 (lt-leb (kept_ticks s l) most_ticks (omega arith))))

      pub kept_sound : t ≤ most_ticks → 0 ≡ kept_number s n l
      kept_sound h = sum_number 0 (sym (unless_held 26 (le-leb (kept_ticks s l) most_ticks (omega arith))))

-- ---- as many segments as ranges, six numbers each
pub segments_count : (s : List ℕ) (o k : ℕ) (l : List ℕ) → length l ≡ 2 * k → length (segments_in s o l) ≡ k
unfolding segments_in
segments_count s o k [] h = omega arith
segments_count s o k (a ∷ []) h = absurd (omega arith)
segments_count s o k (a ∷ e ∷ r) h = omega (arith, segments_count s (o + range_ticks s a e) (k - 1) r (omega arith))

-- what was built in `held` is copied to the map
pub kept_copied : (s ranges held₀ held m₀ m : List ℕ) (count : ℕ) → 2 * count ≤ length ranges → held ≡ put (flat_of (segments_in s 0 (take (2 * count) ranges))) held₀
    → m ≡ put (take (6 * count) held) m₀ → m ≡ put (flat_of (segments_in s 0 (take (2 * count) ranges))) m₀
kept_copied s ranges held₀ held m₀ m count h eh em =
    let xs : List Segment = segments_in s 0 (take (2 * count) ranges) in
    let c : length xs ≡ count = segments_count s 0 count (take (2 * count) ranges) (length-take-le (2 * count) ranges h) in
    let k : length (flat_of xs) ≡ 6 * count = flat_length xs ∙ ap (λ (j : ℕ). 6 * j) c in
    em ∙ ap (λ (v : List ℕ). put v m₀) (ap (λ (j : ℕ). take j held) (sym k) ∙ ap (take (length (flat_of xs))) eh ∙ take_put (flat_of xs) held₀)
