-- Segments with the bounds of their groups, by computation: each bound from both sides, the group of a place, and groups that a search passes over.
use mathlib.Core.Path.{◌≡◌, refl}
use mathlib.Core.Bool.{true, false}
use mathlib.Core.List.{[], ◌∷◌}
use Rattle.spec_map.specs.segment.Segment.{segment}
use Rattle.spec_caption.specs.caption_fate.Grouped.{low_at, high_at, within_parts, bounded_from, bounded_by, passable, passed_at}

-- from 10 to 20: all of it, one tick before, one tick behind, nothing at its end
pub within_rows : within_parts 10 10 10 20 ∷ within_parts 9 10 10 20 ∷ within_parts 10 11 10 20 ∷ within_parts 20 0 10 20 ∷ within_parts 21 0 10 20 ∷ [] ≡ true ∷ false ∷ false ∷ true ∷ false ∷ []
unfolding within_parts
within_rows = refl

-- places 0 to 15 are in the first group, 16 in the second; behind the last group the bounds are 0
pub place_rows : low_at (1 ∷ 2 ∷ 3 ∷ 4 ∷ []) 0 ∷ high_at (1 ∷ 2 ∷ 3 ∷ 4 ∷ []) 15 ∷ low_at (1 ∷ 2 ∷ 3 ∷ 4 ∷ []) 16 ∷ high_at (1 ∷ 2 ∷ 3 ∷ 4 ∷ []) 31 ∷ high_at (1 ∷ 2 ∷ 3 ∷ 4 ∷ []) 32 ∷ [] ≡ 1 ∷ 2 ∷ 3 ∷ 4 ∷ 0 ∷ []
place_rows = refl

-- a segment within its bounds stays, another is emptied; without bounds all stay
pub bounded_rows : bounded_by (10 ∷ 20 ∷ []) 0 (segment 1 2 10 3 50 10 ∷ segment 1 2 10 3 50 11 ∷ []) ≡ segment 1 2 10 3 50 10 ∷ segment 1 2 10 3 50 0 ∷ []
unfolding bounded_by bounded_from within_parts
bounded_rows = refl

pub plain_row : bounded_by [] 0 (segment 1 2 10 3 50 11 ∷ []) ≡ segment 1 2 10 3 50 11 ∷ []
unfolding bounded_by
plain_row = refl

-- a group from 10 to 20: ticks from 20 on and up to 10 pass it over; from 19 on or up to 11 they do not; at place 8 no group begins
pub passed_rows : passed_at (10 ∷ 20 ∷ []) 0 20 30 ∷ passed_at (10 ∷ 20 ∷ []) 0 19 30 ∷ passed_at (10 ∷ 20 ∷ []) 0 5 10 ∷ passed_at (10 ∷ 20 ∷ []) 0 5 11 ∷ passed_at (10 ∷ 20 ∷ []) 8 20 30 ∷ [] ≡ true ∷ false ∷ true ∷ false ∷ false ∷ []
unfolding passed_at passable
passed_rows = refl
