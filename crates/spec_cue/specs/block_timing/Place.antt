-- Where the timing line stands in a block that has one: its first byte, its length, and how many lines are before it.
use Rattle.std.specs.Prelude.{cond, List, [], ◌∷◌, ℕ, ◌+◌, length, Option, Some, None}
use Rattle.spec_text.specs.pattern.Find.{contains}
use Rattle.spec_text.specs.text.Line.{text_of}
use Rattle.spec_cue.specs.declared.block_timing.Place.{Place}
use Rattle.spec_cue.specs.block_timing.Arrow.{arrow}

abbrev pub somewhere : (at size lines : ℕ) → Option Place
somewhere i n k = Some (record { at = i; size = n; lines = k })

-- the first line with an arrow, in lines that begin at byte i with k lines before them
unfoldable pub timing_place : List (List ℕ) → (i k : ℕ) → Option Place
timing_place [] i k = None
timing_place (l ∷ ls) i k = cond (contains arrow (text_of l)) (somewhere i (length l) k) (timing_place ls (i + length l) (k + 1))
