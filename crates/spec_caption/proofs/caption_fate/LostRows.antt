-- The two rules for lost parts on small maps, by computation: the segment that is met, whether the end was cut, and what each rule then says.
use mathlib.Core.Path.{◌≡◌, refl}
use mathlib.Core.Bool.{Bool, true, false, ◌&&◌}
use mathlib.Core.List.{List, [], ◌∷◌}
use Prim.Native.Nat.{ℕ}
use lib.Dec.{ltb}
use Rattle.spec_map.specs.declared.segment.Segment.{Segment}
use Rattle.spec_map.specs.segment.Segment.{segment, source_end}
use Rattle.spec_caption.specs.caption_fate.Hit.{meets_parts, Found, miss, hit, find_from, find_hit}
use Rattle.spec_caption.specs.caption_fate.Lost.{lost_next, lost_later, lost_rule}

-- a segment by source start, output start and duration
abbrev at : (source output duration : ℕ) → Segment
at q o d = segment 0 0 q 0 o d

data Row : Type 0 where
  none : Row
  row : (place : ℕ) (cut next later : Bool) → Row

abbrev found_row : (a b : ℕ) → Found → Row
found_row a b miss = none
found_row a b (hit i x xs) = row i (ltb (source_end x) b) (ltb (source_end x) b && lost_next xs a b) (ltb (source_end x) b && lost_rule xs a b)

abbrev row_of : List Segment → (a b : ℕ) → Row
row_of m a b = found_row a b (find_hit m a b)

-- ---- the rules differ
-- the nearest has length 0, and the one behind it has a part
empty_between : row_of (at 0 0 3003 ∷ at 5000 3003 0 ∷ at 6006 3003 4004 ∷ []) 1500 7500 ≡ row 0 true false true
unfolding meets_parts find_from lost_later
empty_between = refl

-- the nearest lies before the start
nearest_before : row_of (at 6006 0 1000 ∷ at 0 1000 3003 ∷ []) 6500 9000 ≡ row 0 true true false
unfolding meets_parts find_from lost_later
nearest_before = refl

-- the same up to the start
nearest_to_the_start : row_of (at 500 0 1000 ∷ at 100 1000 400 ∷ []) 500 7500 ≡ row 0 true true false
unfolding meets_parts find_from lost_later
nearest_to_the_start = refl

-- the nearest starts at the end, and one further on has a part
further_on : row_of (at 0 0 1000 ∷ at 7500 1000 10 ∷ at 2000 1010 500 ∷ []) 500 7500 ≡ row 0 true false true
unfolding meets_parts find_from lost_later
further_on = refl

-- ---- they agree
-- document 01's worked caption
next_part : row_of (at 0 0 3003 ∷ at 6006 3003 4004 ∷ []) 1500 7500 ≡ row 0 true true true
unfolding meets_parts find_from lost_later
next_part = refl

-- the end is not cut: a later segment that overlaps loses nothing
uncut : row_of (at 0 0 9000 ∷ at 3000 9000 100 ∷ []) 1500 7500 ≡ row 0 false false false
unfolding meets_parts find_from lost_later
uncut = refl

-- the nearest starts at the end
starts_at_the_end : row_of (at 0 0 1000 ∷ at 7500 1000 10 ∷ []) 500 7500 ≡ row 0 true false false
unfolding meets_parts find_from lost_later
starts_at_the_end = refl

-- the nearest ends a tick after the start
past_the_start : row_of (at 500 0 1000 ∷ at 100 1000 401 ∷ []) 500 7500 ≡ row 0 true true true
unfolding meets_parts find_from lost_later
past_the_start = refl

-- all behind have length 0
all_empty : row_of (at 0 0 1000 ∷ at 1000 1000 0 ∷ at 2000 1000 0 ∷ []) 500 7500 ≡ row 0 true false false
unfolding meets_parts find_from lost_later
all_empty = refl

-- a caption without length, and one whose end is before its start
instant : row_of (at 0 0 1000 ∷ at 0 1000 1000 ∷ []) 500 500 ≡ row 0 false false false
unfolding meets_parts find_from lost_later
instant = refl

turned : row_of (at 0 0 3003 ∷ at 1000 3003 4004 ∷ []) 2100 1500 ≡ row 0 false false false
unfolding meets_parts find_from lost_later
turned = refl
