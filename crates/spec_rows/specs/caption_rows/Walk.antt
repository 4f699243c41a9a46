-- A whole text walked line by line: the first fault and its line, and the rows of the captions before it. Over what lines and blocks say (spec_format/specs/ass_line/Line,
-- spec_format/specs/block_cue/Block) and the plain reader's checks of a line. `walk_plain` (proofs) says that fault and rows are the plain reader's.
use Rattle.std.specs.Prelude.{cond, List, [], ◌∷◌, ◌++◌, ℕ, zero, suc, ◌+◌, ◌-◌, ◌*◌, ◌≤◌, ◌≡◌, eqb, leb, length, take, drop}
use Rattle.spec_base.specs.base.Limits.{most_block}
use Rattle.spec_base.specs.base.Put.{put}
use Rattle.spec_text.specs.text.Line.{line_length, lines_of, text_of}
use Rattle.spec_caption.specs.caption_fate.Bom.{behind_bom}
use Rattle.spec_ass.specs.declared.ass_columns.Columns.{Columns}
use Rattle.spec_ass.specs.ass_columns.Columns.{no_columns}
use Rattle.spec_ass.specs.ass_line.Line.{line_says}
use Rattle.spec_ass.specs.ass_line.AssThrough.{columns_after}
use Rattle.spec_cue.specs.block_timing.Style.{blank_in}
use Rattle.promise.specs.Plain.{bom_length, line_fault, head_fault}
use Rattle.spec_rows.specs.declared.caption_rows.Said.{Said}
use Rattle.spec_rows.specs.declared.caption_rows.Walked.{Walked}
use Rattle.spec_rows.specs.caption_rows.Said.{at_fault, quiet, line_said, block_said}

pub record Walk : Type 0 where
  pub fault : ℕ
  pub line : ℕ
  pub rows : List ℕ

abbrev pub stopped : (fault line : ℕ) → Walk
stopped k n = record { fault = k; line = n; rows = [] }

-- ---- six numbers a caption
abbrev pub six_said : Said → List ℕ
six_said s = s.line ∷ s.warned ∷ s.start ∷ s.stop ∷ s.at ∷ s.size ∷ []

abbrev pub rows_said : Said → List ℕ
rows_said s = cond s.caption (six_said s) []

-- what was said, then the rest, unless it was a fault
abbrev pub onward : (number : ℕ) → Said → Walk → Walk
onward zero s w = record { fault = w.fault; line = w.line; rows = rows_said s ++ w.rows }
onward (suc k) s w = stopped (suc k) s.line

infixr 15 ◌then◌
abbrev pub ◌then◌ : Said → Walk → Walk
s then w = onward s.number s w

-- ---- ASS: x bytes of BOM stand before the line, n lines came before it, and it begins at byte i
unfoldable pub ass_turn : (x : ℕ) → Columns → (n i : ℕ) → List ℕ → Said
ass_turn x c n i l = cond (eqb (line_fault x l) 0) (line_said (suc n) i (length (text_of l)) (line_says c n l)) (at_fault (line_fault x l) (suc n))

unfoldable pub ass_next : (x : ℕ) → Columns → (n : ℕ) → List ℕ → Columns
ass_next x c n l = cond (eqb (line_fault x l) 0) (columns_after c (line_says c n l)) c

unfoldable pub ass_walk : (x : ℕ) → Columns → (n i : ℕ) → List (List ℕ) → Walk
ass_walk x c n i [] = stopped 0 0
ass_walk x c n i (l ∷ ls) = ass_turn x c n i l then ass_walk 0 (ass_next x c n l) (suc n) (i + length l) ls

-- ---- SRT and WebVTT: the open block begins at byte i, behind f lines, and has these bytes. The line of 21 is the block's first one
unfoldable pub block_turn : (kind x i f : ℕ) → (block : List ℕ) → (n : ℕ) → List ℕ → Said
block_turn kind x i f b n l =
    cond (eqb (line_fault x l) 0)
    (cond (blank_in kind l) (block_said kind (suc f) i b) (cond (leb (length b + length l) most_block) quiet (at_fault 21 (suc f))))
    (at_fault (line_fault x l) (suc n))

-- the open block behind the line: where it begins, and how many lines came before it
unfoldable pub block_from : (kind x i : ℕ) → (block : List ℕ) → List ℕ → ℕ
block_from kind x i b l = cond (eqb (line_fault x l) 0) (cond (blank_in kind l) (i + length b + length l) i) i

unfoldable pub block_first : (kind x f n : ℕ) → List ℕ → ℕ
block_first kind x f n l = cond (eqb (line_fault x l) 0) (cond (blank_in kind l) (suc n) f) f

unfoldable pub block_walk : (kind x i f : ℕ) → (block : List ℕ) → (n : ℕ) → List (List ℕ) → Walk
block_walk kind x i f b n [] = block_said kind (suc f) i b then stopped 0 0
block_walk kind x i f b n (l ∷ ls) =
    block_turn kind x i f b n l then
    cond (blank_in kind l) (block_walk kind 0 (i + length b + length l) (suc n) [] (suc n) ls) (block_walk kind 0 i f (b ++ l) (suc n) ls)

-- ---- WebVTT: the first line, from byte i on
unfoldable pub head_turn : (x : ℕ) → List ℕ → Said
head_turn x l = cond (eqb (head_fault x l) 0) quiet (at_fault (head_fault x l) 1)

unfoldable pub vtt_walk : (x i : ℕ) → List (List ℕ) → Walk
vtt_walk x i [] = stopped 24 1
vtt_walk x i (l ∷ ls) = head_turn x l then block_walk 2 0 (i + length l) 1 [] 1 ls

-- ---- a text
unfoldable pub walk_behind : (kind x : ℕ) → List (List ℕ) → Walk
walk_behind kind x ls = cond (eqb kind 0) (ass_walk x no_columns 0 x ls) (cond (eqb kind 2) (vtt_walk x x ls) (block_walk kind x x 0 [] 0 ls))

unfoldable pub walk_of : (kind : ℕ) → (text : List ℕ) → Walk
walk_of kind text = walk_behind kind (bom_length text) (lines_of (behind_bom text))

-- ---- parts of a text: the line that begins at byte i, and the bytes from f to i
abbrev pub line_from : (i : ℕ) → List ℕ → List ℕ
line_from i t = take (line_length (drop i t)) (drop i t)

abbrev pub between : (f i : ℕ) → List ℕ → List ℕ
between f i t = take (i - f) (drop f t)

-- ---- what the private functions leave: the fault, its line, how many captions; and where all rows fit, they stand in the lent places
pub record WalkedBy (w : Walk) (r : Walked) (rows rows' : List ℕ) : Type 0 where
  pub number : r.number ≡ w.fault
  pub line : r.line ≡ w.line
  pub captions : 6 * r.captions ≡ length w.rows
  pub written : length w.rows ≤ length rows → rows' ≡ put w.rows rows
