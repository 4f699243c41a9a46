-- Maps that request 2.12 admits: the segments of positive length ascend without overlap, in the source and in the output. Segments without length
-- may stand anywhere, and two segments may touch.
use Rattle.std.specs.Prelude.{◌≡◌, Bool, true, false, cond, List, [], ◌∷◌, ◌++◌, ℕ, ◌+◌, ◌≤◌, ◌<◌, ltb, eqb}
use Rattle.spec_map.specs.declared.segment.Segment.{Segment}
use Rattle.spec_map.specs.segment.Segment.{source_of, output_start_of, source_end}

-- where the output of a segment ends
abbrev pub output_end : Segment → ℕ
output_end x = output_start_of x + x.duration

-- a segment of positive length that starts before source tick s or before output tick o
unfoldable pub steps_back : (s o source output duration : ℕ) → Bool
steps_back s o q p d = cond (eqb d 0) false (cond (ltb q s) true (ltb p o))

-- the later of two numbers, that of a segment of duration d: a segment without length changes nothing
unfoldable pub after : (d old new : ℕ) → ℕ
after d old new = cond (eqb d 0) old new

-- the segments ascend behind source tick s and output tick o, where the last one of positive length ended
unfoldable pub ascends_from : (s o : ℕ) → List Segment → Bool
ascends_from s o [] = true
ascends_from s o (x ∷ xs) =
    cond (steps_back s o (source_of x) (output_start_of x) x.duration) false
    (ascends_from (after x.duration s (source_end x)) (after x.duration o (output_end x)) xs)

unfoldable pub ascends : List Segment → Bool
ascends m = ascends_from 0 0 m

-- ---- in plain words
-- x ends at or before the start of y, in the source and in the output
pub record Before (x y : Segment) : Type 0 where
  pub source : source_end x ≤ source_of y
  pub output : output_end x ≤ output_start_of y

-- of two segments of positive length, the earlier in the list lies before the later
abbrev pub Ascending : List Segment → Type 0
Ascending m =
    (earlier between others : List Segment) (x y : Segment) → m ≡ earlier ++ x ∷ between ++ y ∷ others → 0 < x.duration → 0 < y.duration → Before x y
