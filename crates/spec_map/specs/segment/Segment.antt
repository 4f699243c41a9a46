-- Segments (document 01's stretches) as records and as flat numbers, and the limits of a map (15).
use Rattle.std.specs.Prelude.{Bool, true, false, cond, List, [], ◌∷◌, ◌++◌, ℕ, ◌+◌, ◌*◌, ◌%◌, ltb, eqb, length}
use Rattle.spec_base.specs.base.Limits.{most_frame, most_ticks, most_segments}
use Rattle.spec_map.specs.declared.segment.Segment.{Segment}

-- source start, output start, and where the source of a segment ends
abbrev pub source_of : Segment → ℕ
source_of x = x.source_start_dts

abbrev pub output_start_of : Segment → ℕ
output_start_of x = x.output_start

abbrev pub source_end : Segment → ℕ
source_end x = x.source_start_dts + x.duration

-- the six numbers of a segment, in document 01's order
abbrev pub numbers_of : Segment → List ℕ
numbers_of x =
    x.source_start_frame ∷ x.source_end_frame ∷ x.source_start_dts ∷ x.frame_count ∷ x.output_start ∷ x.duration ∷ []

-- a map as flat numbers
unfoldable pub flat_of : List Segment → List ℕ
flat_of [] = []
flat_of (x ∷ xs) = numbers_of x ++ flat_of xs

-- a segment of six numbers
abbrev pub segment : (first last source frames output duration : ℕ) → Segment
segment a b q k o d =
    record {
      source_start_frame = a;
      source_end_frame = b;
      source_start_dts = q;
      frame_count = k;
      output_start = o;
      duration = d;
    }

-- the segments of flat numbers; fewer than six at the end are none
unfoldable pub segments_of : List ℕ → List Segment
segments_of [] = []
segments_of (a ∷ []) = []
segments_of (a ∷ b ∷ []) = []
segments_of (a ∷ b ∷ c ∷ []) = []
segments_of (a ∷ b ∷ c ∷ d ∷ []) = []
segments_of (a ∷ b ∷ c ∷ d ∷ e ∷ []) = []
segments_of (a ∷ b ∷ c ∷ d ∷ e ∷ f ∷ r) = segment a b c d e f ∷ segments_of r

-- ---- the limits
-- a start and a duration that end past the tick limit
unfoldable pub end_bad : (start duration : ℕ) → Bool
end_bad a d = ltb most_ticks (a + d)

-- a frame number above 32 bits, or an end past the limit in the source or in the output
unfoldable pub segment_bad : (first last source frames output duration : ℕ) → Bool
segment_bad a b q k o d =
    cond (ltb most_frame a) true
    (cond (ltb most_frame b) true
    (cond (ltb most_frame k) true
    (cond (end_bad q d) true
    (end_bad o d))))

-- one of the segments is bad
unfoldable pub any_bad : List Segment → Bool
any_bad [] = false
any_bad (x ∷ xs) =
    cond
    (segment_bad x.source_start_frame x.source_end_frame x.source_start_dts x.frame_count x.output_start x.duration)
    true (any_bad xs)

-- a map as flat numbers: no whole number of segments, more than 1,024, or a bad one
unfoldable pub map_bad : List ℕ → Bool
map_bad m = cond (eqb (length m % 6) 0) (cond (ltb (6 * most_segments) (length m)) true (any_bad (segments_of m))) true
