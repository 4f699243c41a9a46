-- What a line or a block gives: a fault with its line, nothing, or a caption with the place of its words.
use Rattle.std.specs.Prelude.{true, false, cond, List, [], ◌∷◌, ℕ, ◌+◌, ◌-◌, eqb, length, Option, Some, None}
use Rattle.spec_text.specs.text.Line.{lines_of, line_count, text_of}
use Rattle.spec_caption.specs.caption_fate.Says.{Piece, bytes, start, stop, reason_number, Cue, Part, stays, passes, cue, fault_number}
use Rattle.spec_ass.specs.declared.ass_columns.Columns.{Columns}
use Rattle.spec_ass.specs.ass_columns.Columns.{field_at}
use Rattle.spec_ass.specs.ass_line.Line.{LineSays, faulty, says}
use Rattle.spec_cue.specs.block_timing.Style.{style_of}
use Rattle.spec_text.specs.pattern.Find.{up_to}
use Rattle.spec_time.specs.declared.caption_stamp.Stamp.{Stamp}
use Rattle.spec_time.specs.caption_stamp.Read.{time_in}
use Rattle.spec_cue.specs.block_timing.Arrow.{arrow, Timing, untimed, timed, timing_of}
use Rattle.spec_cue.specs.block_cue.Block.{BlockSays, block_says, end_text, faulty as blockFaulty, says as blockSays'}
use Rattle.spec_rows.specs.declared.caption_rows.Said.{Said}

-- ---- the words of a caption, by the frame around its times: in ASS the last field (nothing where a time stands there), in SRT and WebVTT the lines
-- below the timing line
abbrev pub piece_length : Piece → ℕ
piece_length (bytes l) = length l
piece_length start = 0
piece_length stop = 0

abbrev pub last_length : List Piece → ℕ
last_length [] = 0
last_length (p ∷ []) = piece_length p
last_length (p ∷ q ∷ ps) = last_length (q ∷ ps)

-- the last but one
abbrev pub field_length : List Piece → ℕ
field_length [] = 0
field_length (p ∷ []) = 0
field_length (p ∷ q ∷ []) = piece_length p
field_length (p ∷ q ∷ r ∷ ps) = field_length (q ∷ r ∷ ps)

abbrev pub behind_first : List Piece → List Piece
behind_first [] = []
behind_first (p ∷ ps) = ps

unfoldable pub words_length : (kind : ℕ) → Cue → ℕ
words_length kind q = cond (eqb kind 0) (field_length (behind_first q.frame)) (last_length q.frame)

-- ---- what the code hands on
abbrev pub at_fault : (number line : ℕ) → Said
at_fault k n = record { number = k; caption = false; line = n; warned = 0; start = 0; stop = 0; at = 0; size = 0 }

abbrev pub quiet : Said
quiet = at_fault 0 0

abbrev pub caption_said : (line warned S E at size : ℕ) → Said
caption_said n w S E i k = record { number = 0; caption = true; line = n; warned = w; start = S; stop = E; at = i; size = k }

-- a part of `size` bytes from `at` on (an ASS line without its terminator, or a block): its words are at its end
abbrev pub part_said : (kind at size : ℕ) → Part → Said
part_said kind i k (stays l) = quiet
part_said kind i k (passes r n l) = caption_said n (reason_number r) 0 0 i k
part_said kind i k (cue q) = caption_said q.line 0 q.start q.stop (i + (k - words_length kind q)) (words_length kind q)

abbrev pub line_said : (line at size : ℕ) → LineSays → Said
line_said n i k (faulty f) = at_fault (fault_number f) n
line_said n i k (says d p) = part_said 0 i k p

-- the timing line's number, in a block whose first line has the number `first`
abbrev pub timing_line : (first : ℕ) → Timing → ℕ
timing_line first untimed = first
timing_line first (timed before l after) = first + line_count before

abbrev pub held_said : (kind first at size : ℕ) → Timing → BlockSays → Said
held_said kind first i k t (blockFaulty f) = at_fault (fault_number f) (timing_line first t)
held_said kind first i k t (blockSays' p) = part_said kind i k p

-- a block from byte `at` on
unfoldable pub block_said : (kind first at : ℕ) → (block : List ℕ) → Said
block_said kind first i b = held_said kind first i (length b) (timing_of (lines_of b)) (block_says (style_of kind) first (lines_of b))

-- the timing line on line n, with the words from i on
abbrev pub times_said : (n i k : ℕ) → Option Stamp → Option Stamp → Said
times_said n i k None y = at_fault 22 n
times_said n i k (Some S) None = at_fault 22 n
times_said n i k (Some S) (Some E) = caption_said n 0 S.units E.units i k

abbrev pub timing_said : (kind n : ℕ) → (line : List ℕ) → (i k : ℕ) → Said
timing_said kind n l i k = times_said n i k (time_in kind (up_to arrow (text_of l))) (time_in kind (end_text (style_of kind) (text_of l)))

-- the last field, by the columns
unfoldable pub last_words : Columns → List (List ℕ) → ℕ
last_words c fs = cond (eqb c.columns c.«end») 0 (cond (eqb c.columns c.start) 0 (length (field_at c.columns fs)))
