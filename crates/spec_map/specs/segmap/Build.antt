-- The segments of snapped ranges, and the refusals of a range (document 01, "plan.rs .. segmap.rs"): 9 and 10, range by range.
-- s is the sheet's bytes and n its frame count. A list of ranges is flat: start, end, start, end, in display frames, the end excluded.
use Rattle.std.specs.Prelude.{ℕ, ◌+◌, ◌-◌, List, [], ◌∷◌, leb}
use Rattle.spec_base.specs.base.Limits.{most_ticks}
use Rattle.spec_base.specs.base.Refusal.{◌or_else◌, fault_unless}
use Rattle.spec_sheet.specs.sheet_frames.Frames.{decode_of, ticks_from}
use Rattle.spec_trim.specs.plan.Snap.{overlaps_fault}
use Rattle.spec_map.specs.declared.segment.Segment.{Segment}
use Rattle.spec_map.specs.segment.Segment.{segment}

-- source start of a range from display frame a: the durations of all samples with a lower decode index
unfoldable pub source_start : List ℕ → ℕ → ℕ
source_start s a = ticks_from s 0 (decode_of s a)

-- duration of the range a to e: of as many samples as it has frames, over consecutive decode indices
unfoldable pub range_ticks : List ℕ → ℕ → ℕ → ℕ
range_ticks s a e = ticks_from s (decode_of s a) (e - a)

-- those of all ranges together
unfoldable pub kept_ticks : List ℕ → List ℕ → ℕ
kept_ticks s [] = 0
kept_ticks s (a ∷ []) = 0
kept_ticks s (a ∷ e ∷ r) = range_ticks s a e + kept_ticks s r

-- ---- refusals
-- turned over (9): the start above the end; past the end (10): the start's decode index plus the frame count above n
unfoldable pub range_fault : List ℕ → ℕ → ℕ → ℕ → ℕ
range_fault s n a e =
    fault_unless (leb a e) 9 or_else
    fault_unless (leb (decode_of s a + (e - a)) n) 10

-- range by range; a lone number at the end is no range
unfoldable pub ranges_fault : List ℕ → ℕ → List ℕ → ℕ
ranges_fault s n [] = 0
ranges_fault s n (a ∷ []) = 0
ranges_fault s n (a ∷ e ∷ r) = range_fault s n a e or_else ranges_fault s n r

-- snapped ranges: 8 for all pairs, then 9 and 10 range by range, then 26 where their durations together are above 2^53
unfoldable pub kept_number : List ℕ → ℕ → List ℕ → ℕ
kept_number s n l =
    overlaps_fault 0 l or_else
    ranges_fault s n l or_else
    fault_unless (leb (kept_ticks s l) most_ticks) 26

-- ---- segments
-- of the range a to e, whose output starts at o
unfoldable pub segment_in : List ℕ → ℕ → ℕ → ℕ → Segment
segment_in s o a e = segment a e (source_start s a) (e - a) o (range_ticks s a e)

-- of each range, in the list's order, each output starting where the one before it ends, the first at o
unfoldable pub segments_in : List ℕ → ℕ → List ℕ → List Segment
segments_in s o [] = []
segments_in s o (a ∷ []) = []
segments_in s o (a ∷ e ∷ r) = segment_in s o a e ∷ segments_in s (o + range_ticks s a e) r
