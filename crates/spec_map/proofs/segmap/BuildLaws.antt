-- Laws of the refusals of ranges, and of the segments that they give, range by range.
use mathlib.Core.Path.{◌≡◌, refl, sym, ap, ◌∙◌}
use mathlib.Core.List.{List, [], ◌∷◌, ◌++◌}
use Prim.Native.Nat.{ℕ, suc, ◌+◌, ◌-◌, ◌*◌, ◌≤◌, ◌<◌}
use native.Mathlib.Omega.{arith}
use borrow.Author.Tests.{le-leb, lt-leb, leb-true}
use lib.ListN.{length, take, get_or, length-take}
use lib.Seq.{sets}
use Rattle.spec_base.specs.base.Limits.{most_frames, most_ticks}
use Rattle.spec_base.specs.base.Put.{put}
use Rattle.spec_base.specs.base.Refusal.{◌or_else◌, fault_unless}
use Rattle.spec_base.proofs.base.PutLaws.{sets_put}
use Rattle.spec_base.proofs.base.RefusalLaws.{held, else_zero, else_none, else_found}
use Rattle.spec_sheet.specs.sheet_frames.Frames.{decode_of, ticks_from}
use Rattle.spec_trim.proofs.plan.PairLaws.{left_of, pairs_start, left_cut, left_short, pairs_done}
use Rattle.spec_map.specs.declared.segment.Segment.{Segment}
use Rattle.spec_map.specs.segment.Segment.{segment, numbers_of, flat_of}
use Rattle.spec_map.specs.segmap.Build.{source_start, range_ticks, kept_ticks, range_fault, ranges_fault, segment_in, segments_in}
use Rattle.spec_sheet.proofs.sheet_frames.TicksLaws.{ticks_split, ticks_more}

-- ---- one range: k its frame count and x the decode index of its start
module _ (s : List ℕ) (n a e : ℕ) where
  pub fault_turned : e < a → 9 ≡ range_fault s n a e
  unfolding range_fault fault_unless ◌or_else◌
  fault_turned h = rw (lt-leb a e h)

  pub fault_past : (k x : ℕ) → a ≤ e → k ≡ e - a → x ≡ decode_of s a → n < x + k → 10 ≡ range_fault s n a e
  unfolding range_fault fault_unless ◌or_else◌
  fault_past k x h p q l = rw (le-leb a e h, ← p, ← q, lt-leb (x + k) n l)

  pub fault_none : (k x : ℕ) → a ≤ e → k ≡ e - a → x ≡ decode_of s a → x + k ≤ n → 0 ≡ range_fault s n a e
  unfolding range_fault fault_unless ◌or_else◌
  fault_none k x h p q l = rw (le-leb a e h, ← p, ← q, le-leb (x + k) n l)

  -- what a range without a fault has
  pub fault_free : range_fault s n a e ≡ 0 → (a ≤ e) × (decode_of s a + (e - a) ≤ n)
  unfolding range_fault
  fault_free z =
      let h = else_zero _ _ z in
      (leb-true _ _ (held _ 9 (omega arith) h.0), leb-true _ _ (held _ 10 (omega arith) h.1))

-- ---- a list of ranges
pub faults_short : (s : List ℕ) (n : ℕ) (l : List ℕ) → length l < 2 → ranges_fault s n l ≡ 0
unfolding ranges_fault
faults_short s n [] h = refl
faults_short s n (a ∷ []) h = refl
faults_short s n (a ∷ e ∷ r) h = absurd (omega arith)

pub faults_cut : (s : List ℕ) (n a e : ℕ) (r : List ℕ) → ranges_fault s n (a ∷ e ∷ r) ≡ range_fault s n a e or_else ranges_fault s n r
unfolding ranges_fault
faults_cut s n a e r = refl

-- the loop that tests them: what is left of the test is the whole answer v
pub testing_start : (s : List ℕ) (n : ℕ) (l : List ℕ) (count : ℕ) → ranges_fault s n (left_of l count 0) ≡ ranges_fault s n (take (2 * count) l)
testing_start s n l count = ap (ranges_fault s n) (pairs_start l count)

pub testing_zero : (s : List ℕ) (n : ℕ) (l : List ℕ) (count : ℕ) → ranges_fault s n (take (2 * count) l) ≡ 0 → ranges_fault s n (left_of l count 0) ≡ 0
testing_zero s n l count z = testing_start s n l count ∙ z

module _ (s : List ℕ) (n : ℕ) (l : List ℕ) (count i v : ℕ) (inv : ranges_fault s n (left_of l count i) ≡ v) where
  pub testing_short : 2 * i ≤ length l → length l - 2 * i < 2 → 0 ≡ v
  testing_short h k = sym (faults_short s n (left_of l count i) (left_short l count i (omega arith))) ∙ inv

  pub testing_done : count ≤ i → 0 ≡ v
  testing_done h = sym (faults_short s n (left_of l count i) (rw (pairs_done l count i h) (omega arith))) ∙ inv

  -- f is the fault of the next range
  module _ (h : i < count) (j : 2 * i ≤ length l) (k : 2 ≤ length l - 2 * i) (f : ℕ) (e : f ≡ range_fault s n (get_or l (2 * i) 0) (get_or l (2 * i + 1) 0)) where
    next : f or_else ranges_fault s n (left_of l count (i + 1)) ≡ v
    next =
        ap (λ (x : ℕ). x or_else ranges_fault s n (left_of l count (i + 1))) e
        ∙ sym (ap (ranges_fault s n) (left_cut l count i h (omega arith)) ∙ faults_cut s n (get_or l (2 * i) 0) (get_or l (2 * i + 1) 0) (left_of l count (i + 1)))
        ∙ inv

    pub testing_here : (f ≡ 0 → ⊥) → f ≡ v
    testing_here z = sym (else_found f (ranges_fault s n (left_of l count (i + 1))) z) ∙ next

    pub testing_next : f ≡ 0 → ranges_fault s n (left_of l count (i + 1)) ≡ v
    testing_next z = sym (else_none (ranges_fault s n (left_of l count (i + 1))) z) ∙ next

-- ---- the segment of one range: p is the sum before its first sample, q the sum after its last
pub segment_is : (s : List ℕ) (o a e k x p q : ℕ) → k ≡ e - a → x ≡ decode_of s a → p ≡ ticks_from s 0 x → q ≡ ticks_from s 0 (x + k) → segment a e p k o (q - p) ≡ segment_in s o a e
unfolding segment_in source_start range_ticks
segment_is s o a e k x p q ek ex ep eq =
    let d : q - p ≡ ticks_from s x k = omega (arith, ticks_split s x k) in
    rw (d, ep, ek, ex)

-- ---- the segments of a list of ranges
module _ (s : List ℕ) where
  pub segments_cut : (o a e : ℕ) (r : List ℕ) → segments_in s o (a ∷ e ∷ r) ≡ segment_in s o a e ∷ segments_in s (o + range_ticks s a e) r
  unfolding segments_in
  segments_cut o a e r = refl

  flat_cut : (o a e : ℕ) (r : List ℕ) → flat_of (segments_in s o (a ∷ e ∷ r)) ≡ numbers_of (segment_in s o a e) ++ flat_of (segments_in s (o + range_ticks s a e) r)
  unfolding flat_of
  flat_cut o a e r = ap flat_of (segments_cut o a e r)

  flat_none : (o : ℕ) → flat_of (segments_in s o []) ≡ []
  unfolding flat_of segments_in
  flat_none o = refl

  -- three numbers for each of theirs
  pub flat_most : (o : ℕ) (l : List ℕ) → length (flat_of (segments_in s o l)) ≤ 3 * length l
  unfolding flat_of segments_in
  flat_most o [] = omega arith
  flat_most o (a ∷ []) = omega arith
  flat_most o (a ∷ e ∷ r) = omega (arith, flat_most (o + range_ticks s a e) r)

  segment_duration : (o a e : ℕ) → (segment_in s o a e).duration ≡ range_ticks s a e
  unfolding segment_in
  segment_duration o a e = refl

  -- the loop that writes them: l the ranges, m₀ the map at first, m now; what is left to write makes the whole
  abbrev pub Building : (l : List ℕ) (count : ℕ) (m₀ m : List ℕ) (i o : ℕ) → Type 0
  Building l count m₀ m i o = sets m₀ 0 (flat_of (segments_in s 0 (take (2 * count) l))) ≡ sets m (6 * i) (flat_of (segments_in s o (left_of l count i)))

  pub building_start : (l : List ℕ) (count : ℕ) (m : List ℕ) → Building l count m m 0 0
  building_start l count m = sym (ap (λ (u : List ℕ). sets m 0 (flat_of (segments_in s 0 u))) (pairs_start l count))

  pub building_next : (l : List ℕ) (count : ℕ) (m₀ m w : List ℕ) (i o : ℕ) (t : Segment) → Building l count m₀ m i o → i < count → 2 * count ≤ length l
      → t ≡ segment_in s o (get_or l (2 * i) 0) (get_or l (2 * i + 1) 0) → w ≡ sets m (6 * i) (numbers_of t) → Building l count m₀ w (i + 1) (o + t.duration)
  building_next l count m₀ m w i o t inv h k e f =
      let a : ℕ = get_or l (2 * i) 0 in
      let b : ℕ = get_or l (2 * i + 1) 0 in
      let q : suc (suc (suc (suc (suc (suc (6 * i)))))) ≡ 6 * (i + 1) = omega arith in
      let d : range_ticks s a b ≡ t.duration = sym (segment_duration o a b) ∙ ap (λ (x : Segment). x.duration) (sym e) in
      let v : List ℕ = flat_of (segments_in s (o + t.duration) (left_of l count (i + 1))) in
      inv
      ∙ ap (λ (u : List ℕ). sets m (6 * i) (flat_of (segments_in s o u))) (left_cut l count i h (omega arith))
      ∙ ap (sets m (6 * i)) (flat_cut o a b (left_of l count (i + 1)))
      ∙ ap (λ (x : ℕ). sets m (6 * i) (numbers_of (segment_in s o a b) ++ flat_of (segments_in s (o + x) (left_of l count (i + 1))))) d
      ∙ ap (λ (x : Segment). sets m (6 * i) (numbers_of x ++ v)) (sym e)
      ∙ ap (λ (x : List ℕ). sets x (suc (suc (suc (suc (suc (suc (6 * i))))))) v) (sym f)
      ∙ ap (λ (x : ℕ). sets w x v) q

  pub building_done : (l : List ℕ) (count : ℕ) (m₀ m : List ℕ) (i o : ℕ) → Building l count m₀ m i o → count ≤ i → 6 * count ≤ length m₀
      → m ≡ put (flat_of (segments_in s 0 (take (2 * count) l))) m₀
  building_done l count m₀ m i o inv h k =
      let r : length (flat_of (segments_in s 0 (take (2 * count) l))) ≤ length m₀ = omega (arith, flat_most 0 (take (2 * count) l), length-take (2 * count) l) in
      sym
      (sym (sets_put (flat_of (segments_in s 0 (take (2 * count) l))) m₀ r)
      ∙ inv
      ∙ ap (λ (u : List ℕ). sets m (6 * i) (flat_of (segments_in s o u))) (pairs_done l count i h)
      ∙ ap (sets m (6 * i)) (flat_none o))

  -- their durations together: o those of the segments written
  kept_cut : (a e : ℕ) (r : List ℕ) → kept_ticks s (a ∷ e ∷ r) ≡ range_ticks s a e + kept_ticks s r
  unfolding kept_ticks
  kept_cut a e r = refl

  kept_none : kept_ticks s [] ≡ 0
  unfolding kept_ticks
  kept_none = refl

  abbrev pub Adding : (l : List ℕ) (count i o : ℕ) → Type 0
  Adding l count i o = o + kept_ticks s (left_of l count i) ≡ kept_ticks s (take (2 * count) l)

  pub adding_start : (l : List ℕ) (count : ℕ) → Adding l count 0 0
  adding_start l count = omega (arith, ap (kept_ticks s) (pairs_start l count))

  pub adding_next : (l : List ℕ) (count i o : ℕ) (t : Segment) → Adding l count i o → i < count → 2 * count ≤ length l
      → t ≡ segment_in s o (get_or l (2 * i) 0) (get_or l (2 * i + 1) 0) → Adding l count (i + 1) (o + t.duration)
  adding_next l count i o t inv h k e =
      let a : ℕ = get_or l (2 * i) 0 in
      let b : ℕ = get_or l (2 * i + 1) 0 in
      let d : range_ticks s a b ≡ t.duration = sym (segment_duration o a b) ∙ ap (λ (x : Segment). x.duration) (sym e) in
      omega (arith, d, ap (kept_ticks s) (left_cut l count i h (omega arith)), kept_cut a b (left_of l count (i + 1)))

  pub adding_done : (l : List ℕ) (count i o : ℕ) → Adding l count i o → count ≤ i → o ≡ kept_ticks s (take (2 * count) l)
  adding_done l count i o inv h = omega (arith, ap (kept_ticks s) (pairs_done l count i h), kept_none)

-- the ranges that are left have no fault: neither has the next one, nor have those after it
module _ (s : List ℕ) (n : ℕ) (l : List ℕ) (count i : ℕ) (z : ranges_fault s n (left_of l count i) ≡ 0) (h : i < count) (k : 2 * count ≤ length l) where
  free : (range_fault s n (get_or l (2 * i) 0) (get_or l (2 * i + 1) 0) ≡ 0) × (ranges_fault s n (left_of l count (i + 1)) ≡ 0)
  free = else_zero _ _ (sym (ap (ranges_fault s n) (left_cut l count i h (omega arith)) ∙ faults_cut s n (get_or l (2 * i) 0) (get_or l (2 * i + 1) 0) (left_of l count (i + 1))) ∙ z)

  pub free_next : ranges_fault s n (left_of l count (i + 1)) ≡ 0
  free_next = free.1

  pub free_ordered : get_or l (2 * i) 0 ≤ get_or l (2 * i + 1) 0
  free_ordered = (fault_free s n (get_or l (2 * i) 0) (get_or l (2 * i + 1) 0) free.0).0

  pub free_within : n ≤ most_frames → decode_of s (get_or l (2 * i) 0) + (get_or l (2 * i + 1) 0 - get_or l (2 * i) 0) ≤ most_frames
  free_within m = omega (arith, (fault_free s n (get_or l (2 * i) 0) (get_or l (2 * i + 1) 0) free.0).1)

  pub free_summed : ticks_from s 0 n ≤ most_ticks
      → ticks_from s 0 (decode_of s (get_or l (2 * i) 0) + (get_or l (2 * i + 1) 0 - get_or l (2 * i) 0)) ≤ most_ticks
  free_summed m =
      omega (
        arith,
        ticks_more s (decode_of s (get_or l (2 * i) 0) + (get_or l (2 * i + 1) 0 - get_or l (2 * i) 0)) n
            (fault_free s n (get_or l (2 * i) 0) (get_or l (2 * i + 1) 0) free.0).1,
      )
