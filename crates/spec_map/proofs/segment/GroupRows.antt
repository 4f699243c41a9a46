-- Groups of a map and small numbers, by computation: bounds of a group, where a group ends, and each limit from both sides.
use mathlib.Core.Path.{◌≡◌, refl}
use mathlib.Core.Bool.{true, false}
use mathlib.Core.List.{[], ◌∷◌}
use lib.ListN.{length, replicate}
use Rattle.spec_map.specs.segment.Segment.{segment, segments_of}
use Rattle.spec_map.specs.segment.Groups.{low_of, high_of, groups_by, groups_of, segment_large, surveyable}

-- the least start and the largest end, not the start or the end of one segment
pub bound_rows : low_of (segment 0 0 30 0 0 5 ∷ segment 0 0 10 0 0 90 ∷ segment 0 0 20 0 0 1 ∷ []) ∷ high_of (segment 0 0 30 0 0 5 ∷ segment 0 0 10 0 0 90 ∷ segment 0 0 20 0 0 1 ∷ []) ∷ low_of [] ∷ high_of [] ∷ []
    ≡ 10 ∷ 100 ∷ 18446744073709551615 ∷ 0 ∷ []
unfolding low_of high_of
bound_rows = refl

-- two numbers for 1 and for 16 segments, four for 17, none for none
pub count_rows : length (groups_of (replicate 6 7)) ∷ length (groups_of (replicate 96 7)) ∷ length (groups_of (replicate 102 7)) ∷ length (groups_of []) ∷ [] ≡ 2 ∷ 2 ∷ 4 ∷ 0 ∷ []
unfolding groups_of groups_by
count_rows = refl

pub group_row : groups_of (1 ∷ 2 ∷ 3 ∷ 4 ∷ 5 ∷ 6 ∷ []) ≡ 3 ∷ 9 ∷ []
unfolding groups_of groups_by segments_of low_of high_of
group_row = refl

-- frame numbers to 2^32 - 1, ticks below 2^52: each number by itself
pub large_rows : segment_large 4294967295 4294967295 4503599627370495 4294967295 4503599627370495 4503599627370495 ∷ segment_large 4294967296 0 0 0 0 0 ∷ segment_large 0 4294967296 0 0 0 0
    ∷ segment_large 0 0 4503599627370496 0 0 0 ∷ segment_large 0 0 0 4294967296 0 0 ∷ segment_large 0 0 0 0 4503599627370496 0 ∷ segment_large 0 0 0 0 0 4503599627370496 ∷ []
    ≡ false ∷ true ∷ true ∷ true ∷ true ∷ true ∷ true ∷ []
unfolding segment_large
large_rows = refl

-- 1,024 segments, one number more, one segment more; 128 places, one fewer
pub survey_rows : surveyable 6144 128 ∷ surveyable 6145 128 ∷ surveyable 6150 128 ∷ surveyable 6144 127 ∷ surveyable 0 128 ∷ [] ≡ true ∷ false ∷ false ∷ false ∷ true ∷ []
unfolding surveyable
survey_rows = refl
