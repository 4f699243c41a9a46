-- The segments of a map with the bounds of its groups of 16 (spec_map/specs/segment/Groups), by which a search passes over a group at once.
-- The bounds need not be trusted: a segment that is not within those of its group is taken as empty. Without bounds all segments stay as they are.
use Rattle.std.specs.Prelude.{Bool, true, ◌&&◌, cond, List, [], ◌∷◌, ℕ, suc, ◌+◌, ◌*◌, ◌/◌, ◌%◌, leb, eqb, get_or}
use Rattle.spec_map.specs.declared.segment.Segment.{Segment}
use Rattle.spec_map.specs.segment.Segment.{source_of, segments_of}

-- the bounds of the group that the segment at place i is in
abbrev pub low_at : (groups : List ℕ) → (i : ℕ) → ℕ
low_at g i = get_or g (2 * (i / 16)) 0

abbrev pub high_at : (groups : List ℕ) → (i : ℕ) → ℕ
high_at g i = get_or g (2 * (i / 16) + 1) 0

unfoldable pub within_parts : (source duration low high : ℕ) → Bool
within_parts q d low high = leb low q && leb (q + d) high

abbrev pub emptied : Segment → Segment
emptied x =
    record {
      source_start_frame = x.source_start_frame;
      source_end_frame = x.source_end_frame;
      source_start_dts = x.source_start_dts;
      frame_count = x.frame_count;
      output_start = x.output_start;
      duration = 0;
    }

-- the segment at place i
abbrev pub bounded : (groups : List ℕ) → (i : ℕ) → Segment → Segment
bounded g i x = cond (within_parts (source_of x) x.duration (low_at g i) (high_at g i)) x (emptied x)

-- those from place i on
unfoldable pub bounded_from : (groups : List ℕ) → (i : ℕ) → List Segment → List Segment
bounded_from g i [] = []
bounded_from g i (x ∷ xs) = bounded g i x ∷ bounded_from g (suc i) xs

-- the same, or all as they are where there are no bounds
unfoldable pub bounded_by : (groups : List ℕ) → (i : ℕ) → List Segment → List Segment
bounded_by [] i xs = xs
bounded_by (g ∷ gs) i xs = bounded_from (g ∷ gs) i xs

abbrev pub segments_by : (groups map : List ℕ) → List Segment
segments_by g m = bounded_by g 0 (segments_of m)

-- ---- for the private functions
-- group p holds nothing that meets the ticks a to b: it ends at or before a, or begins at or after b
unfoldable pub passable : (groups : List ℕ) → (p a b : ℕ) → Bool
passable g p a b = cond (leb (get_or g (2 * p + 1) 0) a) true (leb b (get_or g (2 * p) 0))

-- and it begins at place i
unfoldable pub passed_at : (groups : List ℕ) → (i a b : ℕ) → Bool
passed_at g i a b = eqb (i % 16) 0 && passable g (i / 16) a b
