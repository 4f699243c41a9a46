-- What a block says by the text alone. A block is its non-blank lines, each with its terminator; the last may have none.
use Rattle.std.specs.Prelude.{Bool, false, List, [], ◌∷◌, ℕ, ◌+◌, take, drop, Option, Some, None}
use Rattle.spec_text.specs.pattern.Find.{up_to}
use Rattle.spec_text.specs.text.Line.{concat, line_count, text_of, terminator_of}
use Rattle.spec_caption.specs.caption_fate.Says.{Piece, bytes, start, stop, Cue, cue_of, Part, stays, cue, Fault, bad_time}
use Rattle.spec_cue.specs.block_timing.Style.{Style}
use Rattle.spec_cue.specs.block_timing.Arrow.{arrow, Timing, untimed, timed, timing_of, after_arrow}
use Rattle.spec_time.specs.declared.caption_stamp.Stamp.{Stamp}

-- the arrow as it is written
abbrev pub written_arrow : List ℕ
written_arrow = 32 ∷ 45 ∷ 45 ∷ 62 ∷ 32 ∷ []

pub data BlockSays : Type 0 where
  faulty : Fault → BlockSays
  says : Part → BlockSays

-- the bytes around the times: those before the timing line, its trailing text, its terminator, and the bytes after it
abbrev pub block_frame : (before trailing terminator after : List ℕ) → List Piece
block_frame before trailing terminator after =
    bytes before ∷ start ∷ bytes written_arrow ∷ stop ∷ bytes trailing ∷ bytes terminator ∷ bytes after ∷ []

-- a block's cue; n is the timing line's number, z whether times stand in the lines below it
abbrev pub block_cue : (n S a E b : ℕ) → (z : Bool) → List Piece → Cue
block_cue n S a E b z ps = cue_of n S a E b false z ps

-- both times must read
abbrev pub both_say : (n : ℕ) → (z : Bool) → List Piece → Option Stamp → Option Stamp → BlockSays
both_say n z ps None y = faulty bad_time
both_say n z ps (Some S) None = faulty bad_time
both_say n z ps (Some S) (Some E) = says (cue (block_cue n S.units S.mark E.units E.mark z ps))

module _ (k : Style) where
  abbrev pub end_text : List ℕ → List ℕ
  end_text t = take (k.end_length (after_arrow t)) (after_arrow t)

  abbrev pub trailing : List ℕ → List ℕ
  trailing t = drop (k.end_length (after_arrow t)) (after_arrow t)

  -- the timing line, between the bytes before and after it
  unfoldable pub timing_line_says : (n : ℕ) → (before line after : List ℕ) → BlockSays
  timing_line_says n before l after =
      both_say n (k.stamps after) (block_frame before (trailing (text_of l)) (terminator_of l) after)
      (k.time (up_to arrow (text_of l)))
      (k.time (end_text (text_of l)))

  -- without a timing line the block stays
  abbrev pub timing_says : (first : ℕ) → List (List ℕ) → Timing → BlockSays
  timing_says first ls untimed = says (stays (concat ls))
  timing_says first ls (timed before l after) = timing_line_says (first + line_count before) (concat before) l (concat after)

  -- the block's lines; `first` is the number of its first line, from 1
  unfoldable pub block_says : (first : ℕ) → List (List ℕ) → BlockSays
  block_says first ls = timing_says first ls (timing_of ls)
