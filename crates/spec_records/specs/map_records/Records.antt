-- A lent list of records: what is written to it, and how it stands to flat numbers.
use Rattle.std.specs.Prelude.{List, [], ◌∷◌, ◌++◌, ℕ, ◌+◌, ◌*◌, ◌%◌, leb, length, drop, get_or, Option, Some}
use Rattle.spec_base.specs.base.Refusal.{fault_unless}
use Rattle.spec_map.specs.declared.segment.Segment.{Segment}
use Rattle.spec_map.specs.segment.Segment.{source_of, output_start_of, segment}
use Rattle.spec_map.specs.segmap.Map.{Map, map_of, map_work}
use Rattle.spec_caption.specs.declared.caption_fate.Met.{Met}

-- v in the first records of l, and the rest of l as it was
unfoldable pub recorded : List Segment → List Segment → List Segment
recorded v l = v ++ drop (length v) l

-- the map that a sheet and a list give, where the records m are lent for it, fewer than 1,024 being 16, and `work` bytes for the sheet's check
abbrev pub map_into : (sheet list : List ℕ) (direction : ℕ) → List Segment → (work : ℕ) → Map
map_into sheet list d m work = map_of sheet list d (6 * length m) work

-- the work bytes afterwards
abbrev pub bytes_into : (sheet : List ℕ) (direction : ℕ) → List Segment → (work : List ℕ) → List ℕ
bytes_into sheet d m work = map_work sheet d (6 * length m) work

-- the number of a map of records that is handed to `lent` places, six to a record: 16 where it does not fit
unfoldable pub flat_number : List Segment → (lent : ℕ) → ℕ
flat_number xs lent = fault_unless (leb (6 * length xs) lent) 16

-- ---- parts of the functions
-- what stands past the end of a list of records
abbrev pub no_segment : Segment
no_segment = segment 0 0 0 0 0 0

-- a segment in the widths of a record: frames and their count of 32 bits
abbrev pub narrow : Segment → Segment
narrow x =
    segment (x.source_start_frame % 4294967296) (x.source_end_frame % 4294967296) (source_of x) (x.frame_count % 4294967296) (output_start_of x) x.duration

unfoldable pub narrowed : List Segment → List Segment
narrowed [] = []
narrowed (x ∷ xs) = narrow x ∷ narrowed xs

-- the segment whose six numbers stand in l from the place i on
abbrev pub segment_at : List ℕ → ℕ → Segment
segment_at l i = narrow (segment (get_or l i 0) (get_or l (i + 1) 0) (get_or l (i + 2) 0) (get_or l (i + 3) 0) (get_or l (i + 4) 0) (get_or l (i + 5) 0))

-- the answer of a segment that is met
abbrev pub hit_at : (place : ℕ) → Segment → Option Met
hit_at i x = Some record { place = i; source = source_of x; output = output_start_of x; duration = x.duration }
