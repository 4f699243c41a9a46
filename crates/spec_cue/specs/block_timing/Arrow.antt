-- The arrow: the line of a block that has one, and what follows it there.
use Rattle.std.specs.Prelude.{cond, List, [], ◌∷◌, ℕ}
use Rattle.spec_text.specs.whitespace.White.{trim_head}
use Rattle.spec_text.specs.pattern.Find.{contains, past}
use Rattle.spec_text.specs.text.Line.{text_of}

-- `-->`
abbrev pub arrow : List ℕ
arrow = 45 ∷ 45 ∷ 62 ∷ []

-- the first line with an arrow: its text is cut at the terminator before it is looked at
pub data Timing : Type 0 where
  untimed : Timing
  timed : (before : List (List ℕ)) → (line : List ℕ) → (after : List (List ℕ)) → Timing

abbrev pub later : List ℕ → Timing → Timing
later l untimed = untimed
later l (timed before x after) = timed (l ∷ before) x after

unfoldable pub timing_of : List (List ℕ) → Timing
timing_of [] = untimed
timing_of (l ∷ ls) = cond (contains arrow (text_of l)) (timed [] l ls) (later l (timing_of ls))

-- what follows the arrow and its White_Space: the end time, and the trailing text
unfoldable pub after_arrow : List ℕ → List ℕ
after_arrow t = trim_head (past arrow t)
