-- What holds of every map that is made: its number, its count, its segments' order, and that open never refuses it (15).
use mathlib.Core.Path.{◌≡◌, refl, sym, ap, subst, ◌∙◌}
use mathlib.Core.Bool.{Bool, false}
use mathlib.Core.Logic.{◌⊎◌, inl, inr, ⊎_elim}
use mathlib.Core.List.{List, [], ◌∷◌}
use Prim.Native.Nat.{ℕ, zero, suc, ◌+◌, ◌-◌, ◌*◌, ◌%◌, ◌≤◌, ◌<◌}
use native.Mathlib.Omega.{arith}
use native.Mathlib.Nat.{zero-add}
use borrow.Author.Tests.{le-ltb, le-leb, eq-eqb, leb-true}
use lib.Dec.{leb}
use lib.ListN.{length, get_or, take}
use Rattle.spec_base.specs.base.Limits.{most_frames, most_frame, most_ticks, most_segments}
use Rattle.spec_base.specs.base.Put.{put}
use Rattle.spec_base.specs.base.Refusal.{◌or_else◌, fault_unless}
use Rattle.spec_base.proofs.base.Laws.{yes!, no! }
use Rattle.spec_base.proofs.base.PutLaws.{take_put}
use Rattle.spec_base.proofs.base.RefusalLaws.{else_zero, else_either, held, unless_held}
use Rattle.spec_sheet.specs.sheet_frames.Frames.{frames_of, timescale_of, long_of, decode_of, duration_of, ticks_from}
use Rattle.spec_sheet.specs.sheet_permutation.Once.{EachOnce}
use Rattle.spec_sheet.proofs.sheet_permutation.NamedLaws.{sum, display_sum}
use Rattle.spec_sheet.specs.sheet.Sheet.{sheet_fault, sheet_number}
use Rattle.spec_base.proofs.base.RefusalNumbers.{else_numbers, unless_numbers}
use Rattle.spec_sheet.proofs.sheet.SheetLaws.{SheetNumber, sheet_numbers, sheet_short, checked, sound_head}
use Rattle.spec_trim.specs.trim.TrimList.{list_number}
use Rattle.spec_trim.proofs.trim.RangeLaws.{OfList, list_number_table}
use Rattle.spec_trim.specs.plan.Snap.{overlaps_fault}
use Rattle.spec_trim.proofs.plan.SnapMeaning.{Bounded, snap_bounded, overlap_numbers, overlap_apart}
use Rattle.spec_map.specs.declared.segment.Segment.{Segment}
use Rattle.spec_map.specs.declared.segmap.Made.{Made}
use Rattle.spec_map.specs.segment.Segment.{segment, flat_of, end_bad, segment_bad, any_bad, map_bad}
use Rattle.spec_map.specs.segmap.Build.{source_start, range_ticks, kept_ticks, range_fault, ranges_fault, kept_number, segment_in, segments_in}
use Rattle.spec_map.specs.segmap.Map.{ranges_for, kept_count, snapped_of, cut_number, map_number, Map, map_answer, map_of, made_of}
use Rattle.spec_map.proofs.segment.SegmentLaws.{flat_back, flat_length}
use Rattle.spec_sheet.proofs.sheet_frames.TicksLaws.{ticks_none, ticks_split, ticks_more, ticks_most}
use Rattle.spec_map.proofs.segmap.KeptLaws.{segments_count}
use Rattle.spec_map.proofs.segmap.BuildLaws.{fault_free, faults_cut}
use Rattle.spec_map.proofs.segmap.MapLaws.{kept_few, kept_length, snapped_length}

-- ---- the numbers of the table: 0, 2 to 14, 16, 20, 25 and 26
-- 0, or one of 2 to 14
abbrev Told : ℕ → Type 0
Told k = (k ≡ 0) ⊎ ((2 ≤ k) × (k ≤ 14))

abbrev pub MapNumber : ℕ → Type 0
MapNumber k = Told k ⊎ ((k ≡ 16) ⊎ ((k ≡ 20) ⊎ ((k ≡ 25) ⊎ (k ≡ 26))))

range_number : (s : List ℕ) (n a e : ℕ) → Told (range_fault s n a e)
unfolding range_fault
range_number s n a e =
    else_numbers Told (fault_unless (leb a e) 9) (fault_unless (leb (decode_of s a + (e - a)) n) 10)
    (unless_numbers Told (inl refl) (leb a e) 9 (inr (omega arith, omega arith)))
    (unless_numbers Told (inl refl) (leb (decode_of s a + (e - a)) n) 10 (inr (omega arith, omega arith)))

ranges_number : (s : List ℕ) (n : ℕ) (l : List ℕ) → Told (ranges_fault s n l)
unfolding ranges_fault
ranges_number s n [] = inl refl
ranges_number s n (a ∷ []) = inl refl
ranges_number s n (a ∷ e ∷ r) = else_numbers Told (range_fault s n a e) (ranges_fault s n r) (range_number s n a e) (ranges_number s n r)

or_else_lem : {a b : ℕ} → MapNumber a → MapNumber b → MapNumber (a or_else b)
or_else_lem {a} {b} p q = else_numbers MapNumber a b p q

argument : (t : Bool) → MapNumber (fault_unless t 16)
argument t = unless_numbers MapNumber (inl (inl refl)) t 16 (inr (inl refl))

of_list : (k : ℕ) → OfList k → MapNumber k
of_list k (inl e) = inl (inl e)
of_list k (inr (inl h)) = inl (inr (h.0, omega (arith, h.1)))
of_list k (inr (inr e)) = inr (inr (inl e))

checked_number : (k : ℕ) → SheetNumber k → MapNumber k
checked_number k (inl e) = inl (inl e)
checked_number k (inr (inl h)) = inl (inr (omega (arith, h.0), h.1))
checked_number k (inr (inr (inl e))) = inr (inl e)
checked_number k (inr (inr (inr (inl e)))) = inr (inr (inr (inl e)))
checked_number k (inr (inr (inr (inr e)))) = inr (inr (inr (inr e)))

kept_number_lem : (s : List ℕ) (n : ℕ) (l : List ℕ) → MapNumber (kept_number s n l)
unfolding kept_number
kept_number_lem s n l =
    or_else_lem (⊎_elim (λ e. inl (inl e)) (λ e. inl (inr (omega (arith, e), omega (arith, e)))) (overlap_numbers 0 l))
    (or_else_lem (inl (ranges_number s n l))
    (unless_numbers MapNumber (inl (inl refl)) (leb (kept_ticks s l) most_ticks) 26 (inr (inr (inr (inr refl))))))

pub map_numbers : (sheet list : List ℕ) (d lent work : ℕ) → MapNumber (map_number sheet list d lent work)
unfolding map_number cut_number
map_numbers sheet list d lent work =
    or_else_lem (argument (leb (6 * most_segments) lent))
    (or_else_lem (argument (leb d 1))
    (or_else_lem (checked_number _ (sheet_numbers sheet work))
    (or_else_lem (of_list (list_number list) (list_number_table list))
    (kept_number_lem sheet (frames_of sheet) (snapped_of sheet list d)))))

-- no map has 1, which a blank list had in document 01
never_of : (k : ℕ) → MapNumber k → k ≡ 1 → ⊥
never_of k (inl (inl z)) e = omega arith
never_of k (inl (inr h)) e = omega (arith, h.0)
never_of k (inr (inl z)) e = omega arith
never_of k (inr (inr (inl z))) e = omega arith
never_of k (inr (inr (inr (inl z)))) e = omega arith
never_of k (inr (inr (inr (inr z)))) e = omega arith

pub map_never_1 : (sheet list : List ℕ) (d lent work : ℕ) → map_number sheet list d lent work ≡ 1 → ⊥
map_never_1 sheet list d lent work e = never_of (map_number sheet list d lent work) (map_numbers sheet list d lent work) e

-- ---- segments of ranges that have passed 8, 9 and 10
-- source start and duration end where the sum of the samples up to there ends
pub source_end_lem : (s : List ℕ) (a e : ℕ) → source_start s a + range_ticks s a e ≡ ticks_from s 0 (decode_of s a + (e - a))
unfolding source_start range_ticks
source_end_lem s a e = sym (ticks_split s (decode_of s a) (e - a))

end_within_lem : (a d : ℕ) → a + d ≤ most_ticks → end_bad a d ≡ false
unfolding end_bad
end_within_lem a d h = le-ltb most_ticks (a + d) h

segment_good : (a b q k o d : ℕ) → a ≤ most_frame → b ≤ most_frame → k ≤ most_frame → q + d ≤ most_ticks → o + d ≤ most_ticks → segment_bad a b q k o d ≡ false
unfolding segment_bad
segment_good a b q k o d ha hb hk hq ho =
    rw (le-ltb most_frame a ha, le-ltb most_frame b hb, le-ltb most_frame k hk, end_within_lem q d hq) (end_within_lem o d ho)

any_cut : (x : Segment) (xs : List Segment)
    → segment_bad x.source_start_frame x.source_end_frame x.source_start_dts x.frame_count x.output_start x.duration ≡ false
    → any_bad xs ≡ false → any_bad (x ∷ xs) ≡ false
unfolding any_bad
any_cut x xs p q = rw p q

-- no segment is bad, where two sums are within the limit: that of all samples, and that of what is kept, the output starting at o
pub none_bad : (s : List ℕ) (n o : ℕ) (l : List ℕ) → n ≤ most_frames → Bounded n l → ranges_fault s n l ≡ 0 → ticks_from s 0 n ≤ most_ticks → o + kept_ticks s l ≤ most_ticks
    → any_bad (segments_in s o l) ≡ false
unfolding segments_in segment_in any_bad kept_ticks
none_bad s n o [] f b z t k = refl
none_bad s n o (a ∷ []) f b z t k = refl
none_bad s n o (a ∷ e ∷ r) f b z t k =
    let h = else_zero _ _ (sym (faults_cut s n a e r) ∙ z) in
    let g = fault_free s n a e h.0 in
    let p : source_start s a + range_ticks s a e ≤ most_ticks = omega (arith, source_end_lem s a e, ticks_more s (decode_of s a + (e - a)) n g.1) in
    any_cut (segment a e (source_start s a) (e - a) o (range_ticks s a e)) (segments_in s (o + range_ticks s a e) r)
    (segment_good a e (source_start s a) (e - a) o (range_ticks s a e) (omega (arith, b.0)) (omega (arith, b.1.0)) (omega (arith, b.1.0)) p (omega arith))
    (none_bad s n (o + range_ticks s a e) r f b.1.1 h.1 t (omega arith))

-- ---- in the first layout, with durations of 32 bits, neither sum is above the limit: 26 does not occur
module _ (s : List ℕ) (bytes : (j : ℕ) → get_or s j 0 < 256) (short : long_of s ≡ false) (n : ℕ) where
  range_most : (a e : ℕ) → range_ticks s a e ≤ 4294967295 * (e - a)
  unfolding range_ticks
  range_most a e = ticks_most s bytes short (decode_of s a) (e - a)

  -- ranges that come one after the other from p on take no more than the frames from there
  kept_most : (p : ℕ) (l : List ℕ) → p ≤ n → Bounded n l → overlaps_fault p l ≡ 0 → ranges_fault s n l ≡ 0 → kept_ticks s l ≤ 4294967295 * (n - p)
  unfolding kept_ticks
  kept_most p [] h b v z = omega arith
  kept_most p (a ∷ []) h b v z = omega arith
  kept_most p (a ∷ e ∷ r) h b v z =
      let w = else_zero _ _ (sym (faults_cut s n a e r) ∙ z) in
      let g = fault_free s n a e w.0 in
      let u = overlap_apart p a e r v in
      omega (arith, g.0, u.0, b.1.0, range_most a e, kept_most e r b.1.0 b.1.1 u.1 w.1)

  pub kept_within : (l : List ℕ) → n ≤ most_frames → Bounded n l → overlaps_fault 0 l ≡ 0 → ranges_fault s n l ≡ 0 → kept_ticks s l ≤ most_ticks
  kept_within l h b v z = omega (arith, kept_most 0 l (omega arith) b v z)

-- ---- the flat numbers of segments
pub flat_good : (xs : List Segment) → length xs ≤ most_segments → any_bad xs ≡ false → map_bad (flat_of xs) ≡ false
unfolding map_bad
flat_good xs h g =
    let w : length (flat_of xs) % 6 ≡ 0 = omega (arith, flat_length xs) in
    let m : length (flat_of xs) ≤ 6 * most_segments = omega (arith, flat_length xs) in
    sym (yes! _ (eq-eqb (length (flat_of xs) % 6) 0 w) (no! _ (le-ltb (6 * most_segments) (length (flat_of xs)) m) (sym (ap any_bad (flat_back xs) ∙ g))))

-- ---- segments one by one
-- start and end frame of each
abbrev pub frames_in : List Segment → List ℕ
frames_in [] = []
frames_in (x ∷ xs) = x.source_start_frame ∷ x.source_end_frame ∷ frames_in xs

pub segments_frames : (s : List ℕ) (o k : ℕ) (l : List ℕ) → length l ≡ 2 * k → frames_in (segments_in s o l) ≡ l
unfolding segments_in segment_in
segments_frames s o k [] h = refl
segments_frames s o k (a ∷ []) h = absurd (omega arith)
segments_frames s o k (a ∷ e ∷ r) h = ap (λ (t : List ℕ). a ∷ e ∷ t) (segments_frames s (o + range_ticks s a e) (k - 1) r (omega arith))

-- each output starts where the one before it ends, the first at o
abbrev pub Chained : ℕ → List Segment → Type 0
Chained o [] = Unit
Chained o (x ∷ xs) = (x.output_start ≡ o) × Chained (o + x.duration) xs

pub segments_chained : (s : List ℕ) (o : ℕ) (l : List ℕ) → Chained o (segments_in s o l)
unfolding segments_in segment_in
segments_chained s o [] = tt
segments_chained s o (a ∷ []) = tt
segments_chained s o (a ∷ e ∷ r) = (refl, segments_chained s (o + range_ticks s a e) r)

-- start equal to end gives duration 0
abbrev pub Still : List Segment → Type 0
Still [] = Unit
Still (x ∷ xs) = (x.source_start_frame ≡ x.source_end_frame → x.duration ≡ 0) × Still xs

pub segments_still : (s : List ℕ) (o : ℕ) (l : List ℕ) → Still (segments_in s o l)
unfolding segments_in segment_in range_ticks
segments_still s o [] = tt
segments_still s o (a ∷ []) = tt
segments_still s o (a ∷ e ∷ r) = (λ q. ticks_none s (decode_of s a) (e - a) (omega arith), segments_still s (o + ticks_from s (decode_of s a) (e - a)) r)

-- ---- each sample named once: the durations of all frames in display order
abbrev pub display_ticks : List ℕ → ℕ → ℕ
display_ticks s zero = 0
display_ticks s (suc k) = display_ticks s k + duration_of s (decode_of s k)

display_is : (s : List ℕ) (k : ℕ) → display_ticks s k ≡ sum (λ i. duration_of s (decode_of s i)) k
display_is s zero = refl
display_is s (suc k) = omega (arith, display_is s k)

ticks_are : (s : List ℕ) (k : ℕ) → ticks_from s 0 k ≡ sum (duration_of s) k
unfolding ticks_from
ticks_are s zero = refl
ticks_are s (suc k) = omega (arith, ticks_are s k, ap (duration_of s) (zero-add k))

-- together they last as long as all samples in decode order
pub display_total : (s : List ℕ) (n : ℕ) → EachOnce s n → display_ticks s n ≡ ticks_from s 0 n
display_total s n e = display_is s n ∙ display_sum s (duration_of s) n e ∙ sym (ticks_are s n)

-- ---- an answer, made or refused
answer_number : (k t : ℕ) (xs : List Segment) → (map_answer k t xs).number ≡ k
unfolding map_answer
answer_number zero t xs = refl
answer_number (suc k) t xs = refl

answer_count : (k t : ℕ) (xs : List Segment) → (map_answer k t xs).count ≡ length (map_answer k t xs).segments
unfolding map_answer
answer_count zero t xs = refl
answer_count (suc k) t xs = refl

answer_refused : (k t : ℕ) (xs : List Segment) → (k ≡ 0 → ⊥) → (map_answer k t xs).segments ≡ []
unfolding map_answer
answer_refused zero t xs h = absurd (h refl)
answer_refused (suc k) t xs h = refl

module _ (sheet list : List ℕ) (d lent work : ℕ) where
  pub map_number_lem : (map_of sheet list d lent work).number ≡ map_number sheet list d lent work
  unfolding map_of
  map_number_lem = answer_number _ _ _

  -- its count is the number of its segments, and its numbers as they are written are six to each
  pub map_count : (map_of sheet list d lent work).count ≡ length (map_of sheet list d lent work).segments
  unfolding map_of
  map_count = answer_count _ _ _

  pub map_length : length (flat_of (map_of sheet list d lent work).segments) ≡ 6 * (map_of sheet list d lent work).count
  map_length = flat_length (map_of sheet list d lent work).segments ∙ ap (λ (k : ℕ). 6 * k) (sym map_count)

  -- the first 6 x count places that a call leaves are the map
  pub map_front : (m : List ℕ) → take (6 * (map_of sheet list d lent work).count) (put (flat_of (map_of sheet list d lent work).segments) m) ≡ flat_of (map_of sheet list d lent work).segments
  map_front m =
      ap (λ (k : ℕ). take k (put (flat_of (map_of sheet list d lent work).segments) m)) (sym map_length) ∙ take_put (flat_of (map_of sheet list d lent work).segments) m

  -- what a call tells of it
  module _ (r : Made) (e : r ≡ made_of (map_of sheet list d lent work)) where
    pub told_number : r.number ≡ map_number sheet list d lent work
    unfolding made_of
    told_number = ap (λ (x : Made). x.number) e ∙ map_number_lem

    pub told_count : r.count ≡ (map_of sheet list d lent work).count
    unfolding made_of
    told_count = ap (λ (x : Made). x.count) e

  -- a refusal has no segments, so that nothing is written
  pub map_refused : (map_number sheet list d lent work ≡ 0 → ⊥) → (map_of sheet list d lent work).segments ≡ []
  unfolding map_of
  map_refused h = answer_refused (map_number sheet list d lent work) (timescale_of sheet) (segments_in sheet 0 (snapped_of sheet list d)) h

-- ---- a map that is made: the number is 0
pub record MadeParts (sheet list : List ℕ) (d lent work : ℕ) : Type 0 where
  pub room : 6 * most_segments ≤ lent
  pub direction : d ≤ 1
  pub sheet_sound : sheet_fault sheet ≡ 0
  pub once : EachOnce sheet (frames_of sheet)
  pub within : ticks_from sheet 0 (frames_of sheet) ≤ most_ticks
  pub list_sound : list_number list ≡ 0
  pub apart : overlaps_fault 0 (snapped_of sheet list d) ≡ 0
  pub ranges : ranges_fault sheet (frames_of sheet) (snapped_of sheet list d) ≡ 0
  pub kept : kept_ticks sheet (snapped_of sheet list d) ≤ most_ticks

kept_parts : (s : List ℕ) (n : ℕ) (l : List ℕ) → kept_number s n l ≡ 0 → (overlaps_fault 0 l ≡ 0) × (ranges_fault s n l ≡ 0) × (kept_ticks s l ≤ most_ticks)
unfolding kept_number
kept_parts s n l z =
    let a = else_zero _ _ z in
    let b = else_zero _ _ a.1 in
    (a.0, b.0, leb-true _ _ (held _ 26 (omega arith) b.1))

module _ (sheet list : List ℕ) (d lent work : ℕ) (made : map_number sheet list d lent work ≡ 0) where
  -- it has passed every test
  pub made_parts : MadeParts sheet list d lent work
  unfolding map_number cut_number
  made_parts =
      let a = else_zero _ _ made in
      let b = else_zero _ _ a.1 in
      let c = else_zero _ _ b.1 in
      let e = else_zero _ _ c.1 in
      let f = kept_parts sheet (frames_of sheet) (snapped_of sheet list d) e.1 in
      record {
        room = leb-true _ _ (held _ 16 (omega arith) a.0);
        direction = leb-true _ _ (held _ 16 (omega arith) b.0);
        sheet_sound = (checked sheet work c.0).fault;
        once = (checked sheet work c.0).once;
        within = (checked sheet work c.0).within;
        list_sound = e.0;
        apart = f.0;
        ranges = f.1;
        kept = f.2;
      }

  -- no sample of its sheet is played twice, and none is left out
  pub made_total : display_ticks sheet (frames_of sheet) ≡ ticks_from sheet 0 (frames_of sheet)
  made_total = display_total sheet (frames_of sheet) made_parts.once

  answer_made : map_of sheet list d lent work ≡ map_answer 0 (timescale_of sheet) (segments_in sheet 0 (snapped_of sheet list d))
  unfolding map_of
  answer_made = ap (λ (k : ℕ). map_answer k (timescale_of sheet) (segments_in sheet 0 (snapped_of sheet list d))) made

  -- its timescale is the sheet's, and its segments are those of the snapped ranges
  pub made_timescale : (map_of sheet list d lent work).timescale ≡ timescale_of sheet
  unfolding map_answer
  made_timescale = ap (λ (m : Map). m.timescale) answer_made

  pub made_segments : (map_of sheet list d lent work).segments ≡ segments_in sheet 0 (snapped_of sheet list d)
  unfolding map_answer
  made_segments = ap (λ (m : Map). m.segments) answer_made

  -- as many as the list has ranges, one for a blank list, and so at most 1,024
  pub made_count : (map_of sheet list d lent work).count ≡ kept_count list
  made_count =
      map_count sheet list d lent work ∙ ap length made_segments
      ∙ segments_count sheet 0 (kept_count list) (snapped_of sheet list d) (snapped_length sheet list d made_parts.list_sound)

  pub made_few : (map_of sheet list d lent work).count ≤ most_segments
  made_few = omega (arith, made_count, kept_few list made_parts.list_sound)

  -- no number of a snapped range is above the frame count
  pub made_bounded : Bounded (frames_of sheet) (snapped_of sheet list d)
  unfolding snapped_of
  made_bounded =
      snap_bounded sheet (frames_of sheet) d (kept_count list) (ranges_for (frames_of sheet) list) (kept_length (frames_of sheet) list made_parts.list_sound)

  -- its segments' frames are the snapped ranges, in the list's order
  pub made_frames : frames_in (map_of sheet list d lent work).segments ≡ snapped_of sheet list d
  made_frames =
      ap frames_in made_segments ∙ segments_frames sheet 0 (kept_count list) (snapped_of sheet list d) (snapped_length sheet list d made_parts.list_sound)

  -- each output starts where the one before it ends, and a segment without frames has no duration
  pub made_chained : Chained 0 (map_of sheet list d lent work).segments
  made_chained = subst (Chained 0) (sym made_segments) (segments_chained sheet 0 (snapped_of sheet list d))

  pub made_still : Still (map_of sheet list d lent work).segments
  made_still = subst Still (sym made_segments) (segments_still sheet 0 (snapped_of sheet list d))

  -- the sums of all samples and of what is kept are within the limit, so open does not refuse it (15)
  pub made_good : map_bad (flat_of (map_of sheet list d lent work).segments) ≡ false
  made_good =
      let few : length (map_of sheet list d lent work).segments ≤ most_segments = omega (arith, map_count sheet list d lent work, made_few) in
      flat_good (map_of sheet list d lent work).segments few
      (ap any_bad made_segments
      ∙ none_bad sheet (frames_of sheet) 0 (snapped_of sheet list d) (sound_head sheet made_parts.sheet_sound).frames_high made_bounded made_parts.ranges
      made_parts.within (omega (arith, made_parts.kept)))

-- ---- in the first layout 26 does not occur
told_other : (k : ℕ) → Told k → k ≡ 26 → ⊥
told_other k (inl z) e = omega arith
told_other k (inr h) e = omega (arith, h.1)

argument_other : (t : Bool) → fault_unless t 16 ≡ 26 → ⊥
argument_other t e =
    ⊎_elim (λ (z : fault_unless t 16 ≡ 0). omega arith) (λ (z : fault_unless t 16 ≡ 16). omega arith)
    (unless_numbers (λ (k : ℕ). (k ≡ 0) ⊎ (k ≡ 16)) (inl refl) t 16 (inr refl))

list_other : (k : ℕ) → OfList k → k ≡ 26 → ⊥
list_other k (inl z) e = omega arith
list_other k (inr (inl h)) e = omega (arith, h.1)
list_other k (inr (inr z)) e = omega arith

module _ (sheet list : List ℕ) (d lent work : ℕ) (bytes : (j : ℕ) → get_or sheet j 0 < 256) (short : long_of sheet ≡ false) where
  abbrev l : List ℕ
  l = snapped_of sheet list d

  abbrev n : ℕ
  n = frames_of sheet

  -- the sheet and the list are sound
  kept_other : sheet_number sheet work ≡ 0 → list_number list ≡ 0 → kept_number sheet n l ≡ 26 → ⊥
  unfolding kept_number snapped_of
  kept_other zs zl e =
      let few : n ≤ most_frames = (sound_head sheet (checked sheet work zs).fault).frames_high in
      let b : Bounded n l = snap_bounded sheet n d (kept_count list) (ranges_for n list) (kept_length n list zl) in
      ⊎_elim (λ o. ⊎_elim (λ z. omega (arith, z, o)) (λ z. omega (arith, z, o)) (overlap_numbers 0 l))
      (λ o. ⊎_elim (told_other (ranges_fault sheet n l) (ranges_number sheet n l))
      (λ r.
      let k : kept_ticks sheet l ≤ most_ticks = kept_within sheet bytes short n l few b o.0 r.0 in
      omega (arith, unless_held 26 (le-leb (kept_ticks sheet l) most_ticks k), r.1))
      (else_either _ _ 26 o.1))
      (else_either _ _ 26 e)

  pub map_short : map_number sheet list d lent work ≡ 26 → ⊥
  unfolding map_number cut_number
  map_short e =
      ⊎_elim (argument_other (leb (6 * most_segments) lent))
      (λ a. ⊎_elim (argument_other (leb d 1))
      (λ b. ⊎_elim (sheet_short sheet work bytes short)
      (λ c. ⊎_elim (list_other (list_number list) (list_number_table list)) (λ f. kept_other c.0 f.0 f.1) (else_either _ _ 26 c.1))
      (else_either _ _ 26 b.1))
      (else_either _ _ 26 a.1))
      (else_either _ _ 26 e)
