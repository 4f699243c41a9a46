-- The segment that a caption meets: document 01's hit. a and b are the ticks of the caption's start and end.
use Rattle.std.specs.Prelude.{Bool, ◌&&◌, cond, List, [], ◌∷◌, ℕ, suc, ◌+◌, ltb, get_or, Option, Some, None}
use Rattle.spec_map.specs.declared.segment.Segment.{Segment}
use Rattle.spec_map.specs.segment.Segment.{source_of, output_start_of}
use Rattle.spec_caption.specs.declared.caption_fate.Met.{Met}

-- of positive length, ends after tick a and starts before tick b
unfoldable pub meets_parts : (source duration a b : ℕ) → Bool
meets_parts q d a b = ltb 0 d && (ltb a (q + d) && ltb q b)

abbrev pub meets : Segment → (a b : ℕ) → Bool
meets x a b = meets_parts (source_of x) x.duration a b

-- the first segment that meets a caption, its place in the list from 0, and the segments after it
pub data Found : Type 0 where
  miss : Found
  hit : (place : ℕ) → Segment → (others : List Segment) → Found

-- the same in a list whose first segment has the place i
unfoldable pub find_from : (i : ℕ) → List Segment → (a b : ℕ) → Found
find_from i [] a b = miss
find_from i (x ∷ xs) a b = cond (meets x a b) (hit i x xs) (find_from (suc i) xs a b)

abbrev pub find_hit : List Segment → (a b : ℕ) → Found
find_hit m a b = find_from 0 m a b

-- ---- as numbers
abbrev pub met_of : (place : ℕ) → Segment → Met
met_of i x = record { place = i; source = source_of x; output = output_start_of x; duration = x.duration }

-- what the code answers
abbrev pub hit_of : Found → Option Met
hit_of miss = None
hit_of (hit i x xs) = Some (met_of i x)

-- the segment at the head of a row of flat numbers
unfoldable pub met_at : (place : ℕ) → List ℕ → Met
met_at i t = record { place = i; source = get_or t 2 0; output = get_or t 4 0; duration = get_or t 5 0 }
