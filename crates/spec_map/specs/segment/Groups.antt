-- A map in groups of 16 segments. Of each group a lower bound of its source starts and an upper bound of its source ends, so that a search can pass over the group at once.
-- And maps whose numbers are so small that they break no limit.
use Rattle.std.specs.Prelude.{◌≡◌, Bool, true, false, ◌&&◌, not, cond, List, [], ◌∷◌, ℕ, zero, suc, ◌+◌, ◌*◌, ◌/◌, ◌%◌, ◌^◌, min, max, ltb, leb, eqb, length, take, drop}
use Rattle.spec_base.specs.base.Limits.{most_frame, most_segments}
use Rattle.spec_base.specs.base.Put.{put}
use Rattle.spec_map.specs.declared.segment.Segment.{Segment}
use Rattle.spec_map.specs.declared.segment.Surveyed.{Surveyed}
use Rattle.spec_map.specs.segment.Segment.{source_of, source_end, segments_of}

-- 16 segments of six numbers
abbrev pub group_numbers : ℕ
group_numbers = 96

-- the least source start, or the largest number of 64 bits
unfoldable pub low_of : List Segment → ℕ
low_of [] = 18446744073709551615
low_of (x ∷ xs) = min (source_of x) (low_of xs)

-- the largest source end as a number of 64 bits, or 0
unfoldable pub high_of : List Segment → ℕ
high_of [] = 0
high_of (x ∷ xs) = max (source_end x % 2 ^ 64) (high_of xs)

-- two numbers for each of n groups
unfoldable pub groups_by : (n : ℕ) → List ℕ → List ℕ
groups_by zero m = []
groups_by (suc n) m = low_of (segments_of (take group_numbers m)) ∷ high_of (segments_of (take group_numbers m)) ∷ groups_by n (drop group_numbers m)

-- as many groups as the map begins
abbrev pub group_count : (size : ℕ) → ℕ
group_count n = (n + 95) / 96

unfoldable pub groups_of : List ℕ → List ℕ
groups_of m = groups_by (group_count (length m)) m

-- ---- small numbers: frame numbers of 32 bits, ticks below 2^52
unfoldable pub segment_large : (first last source frames output duration : ℕ) → Bool
segment_large a b q k o d =
    cond (ltb most_frame a) true
    (cond (ltb most_frame b) true
    (cond (ltb most_frame k) true
    (cond (leb 4503599627370496 q) true
    (cond (leb 4503599627370496 o) true
    (leb 4503599627370496 d)))))

unfoldable pub any_large : List Segment → Bool
any_large [] = false
any_large (x ∷ xs) =
    cond
    (segment_large x.source_start_frame x.source_end_frame x.source_start_dts x.frame_count x.output_start x.duration)
    true (any_large xs)

-- ---- a survey of a map: it is made of a whole number of segments, at most 1,024, where 128 places are lent
unfoldable pub surveyable : (size lent : ℕ) → Bool
surveyable n lent = eqb (n % 6) 0 && (leb n (6 * most_segments) && leb 128 lent)

unfoldable pub groups_in : (lent : ℕ) → List ℕ → List ℕ
groups_in lent m = cond (surveyable (length m) lent) (groups_of m) []

unfoldable pub small_in : (lent : ℕ) → List ℕ → Bool
small_in lent m = surveyable (length m) lent && not (any_large (segments_of m))

-- what is told, and the lent places before and after
pub record Surveys (m groups groups' : List ℕ) (r : Surveyed) : Type 0 where
  pub count : r.count ≡ length (groups_in (length groups) m)
  pub small : r.small ≡ small_in (length groups) m
  pub written : groups' ≡ put (groups_in (length groups) m) groups
