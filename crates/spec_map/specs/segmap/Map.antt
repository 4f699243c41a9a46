-- The map that a sheet and a trim list give, from their bytes, or the number of the refusal in document 01's order.
use Rattle.std.specs.Prelude.{ℕ, zero, suc, ◌*◌, cond, List, [], ◌∷◌, eqb, leb, length}
use Rattle.spec_base.specs.base.Limits.{most_segments}
use Rattle.spec_base.specs.base.Refusal.{◌or_else◌, fault_unless}
use Rattle.spec_sheet.specs.sheet_frames.Frames.{frames_of, timescale_of}
use Rattle.spec_sheet.specs.sheet.Sheet.{sheet_number, work_after}
use Rattle.spec_text.specs.text.Line.{blank}
use Rattle.spec_trim.specs.trim.TrimList.{list_number, range_count, ranges_of, parsed}
use Rattle.spec_trim.specs.declared.trim.Parsed.{Parsed}
use Rattle.spec_trim.specs.plan.Snap.{snap_all}
use Rattle.spec_map.specs.declared.segment.Segment.{Segment}
use Rattle.spec_map.specs.declared.segmap.Made.{Made}
use Rattle.spec_map.specs.segmap.Build.{kept_number, segments_in}

-- the ranges that a list keeps of n frames: a blank one keeps them all
unfoldable pub ranges_for : ℕ → List ℕ → List ℕ
ranges_for n list = cond (blank list) (0 ∷ n ∷ []) (ranges_of list)

-- how many these are, and what is read of a list: its number, and their count where that is 0
unfoldable pub kept_count : List ℕ → ℕ
kept_count list = cond (blank list) 1 (range_count list)

unfoldable pub kept_of : List ℕ → Parsed
kept_of list = parsed (list_number list) (cond (eqb (list_number list) 0) (kept_count list) 0)

-- the same, snapped
unfoldable pub snapped_of : (sheet list : List ℕ) (direction : ℕ) → List ℕ
snapped_of sheet list d = snap_all sheet (frames_of sheet) d (ranges_for (frames_of sheet) list)

-- past a sound sheet: the list's number, then those of its ranges, snapped
unfoldable pub cut_number : (sheet list : List ℕ) (direction : ℕ) → ℕ
cut_number sheet list d =
    list_number list or_else
    kept_number sheet (frames_of sheet) (snapped_of sheet list d)

-- the number of the call, where `lent` places are lent for the map and `work` bytes for the sheet's check: 16 for a short map or another direction than
-- 0 or 1, before all else; then the sheet's (16 again where the work bytes are too few), then the list's and its ranges'
unfoldable pub map_number : (sheet list : List ℕ) (direction lent work : ℕ) → ℕ
map_number sheet list d lent work =
    fault_unless (leb (6 * most_segments) lent) 16 or_else
    fault_unless (leb d 1) 16 or_else
    sheet_number sheet work or_else
    cut_number sheet list d

-- the work bytes afterwards: as the sheet's check leaves them, where it is asked
unfoldable pub map_work : (sheet : List ℕ) (direction lent : ℕ) → List ℕ → List ℕ
map_work sheet d lent work = cond (leb (6 * most_segments) lent) (cond (leb d 1) (work_after sheet work) work) work

-- ---- the answer
pub record Map : Type 0 where
  pub number : ℕ
  pub timescale : ℕ
  pub count : ℕ
  pub segments : List Segment

-- a number, and where it is 0 the timescale and the segments; a refusal has none
unfoldable pub map_answer : (number timescale : ℕ) → List Segment → Map
map_answer zero t xs = record { number = 0; timescale = t; count = length xs; segments = xs }
map_answer (suc k) t xs = record { number = suc k; timescale = 0; count = 0; segments = [] }

-- of a sound sheet, and of the whole call
unfoldable pub cut_of : (sheet list : List ℕ) (direction : ℕ) → Map
cut_of sheet list d = map_answer (cut_number sheet list d) (timescale_of sheet) (segments_in sheet 0 (snapped_of sheet list d))

unfoldable pub map_of : (sheet list : List ℕ) (direction lent work : ℕ) → Map
map_of sheet list d lent work = map_answer (map_number sheet list d lent work) (timescale_of sheet) (segments_in sheet 0 (snapped_of sheet list d))

-- what the call returns of it
abbrev pub made : (number timescale count : ℕ) → Made
made k t c = record { number = k; timescale = t; count = c }

unfoldable pub made_of : Map → Made
made_of m = made m.number m.timescale m.count
