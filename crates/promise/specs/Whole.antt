-- Whole texts and the plain reader, after a finish. Without a fault it has read what the whole text says (spec_format/specs/whole/Ass and Srt);
-- with one, what the lines before the fault's line or block say.
use Rattle.std.specs.Prelude.{◌≡◌, ◌⊎◌, Bool, true, List, [], ◌∷◌, ◌++◌, ℕ, suc, ◌<◌}
use Rattle.spec_base.specs.base.Refusal.{◌or_else◌}
use Rattle.spec_text.specs.text.Line.{lines_of, line_count}
use Rattle.spec_caption.specs.caption_fate.Says.{stays, fault_number}
use Rattle.spec_caption.specs.caption_fate.Bom.{starts_bom, behind_bom, bom_written}
use Rattle.spec_ass.specs.declared.ass_columns.Columns.{Columns}
use Rattle.spec_ass.specs.ass_line.Line.{LineSays, line_says, faulty as lineFaulty, says as line_said}
use Rattle.spec_ass.specs.ass_columns.Columns.{no_columns}
use Rattle.spec_format.specs.whole.Ass.{lines_said, columns_behind, ass_said}
use Rattle.spec_cue.specs.block_timing.Style.{style_of, blank_in}
use Rattle.spec_cue.specs.block_cue.Block.{BlockSays, block_says, faulty as blockFaulty, says as block_said}
use Rattle.spec_format.specs.whole.Srt.{Block, blocks_of, blocks_said, srt_said}
use Rattle.spec_format.specs.whole.Vtt.{vtt_said}
use Rattle.spec_machine.specs.session_counts.Reader.{fails}
use Rattle.promise.specs.Plain.{bom_length, line_fault, ass_read, body_fault, bom_behind, blocks_read, head_fault, bom_back, plain_read}

-- ---- without a fault
abbrev pub AssWhole : Type 0
AssWhole = (text : List ℕ) → (plain_read 0 true text).fault ≡ 0 → (plain_read 0 true text).parts ≡ ass_said text

abbrev pub SrtWhole : Type 0
SrtWhole = (text : List ℕ) → (plain_read 1 true text).fault ≡ 0 → (plain_read 1 true text).parts ≡ srt_said text

abbrev pub VttWhole : Type 0
VttWhole = (text : List ℕ) → (plain_read 2 true text).fault ≡ 0 → (plain_read 2 true text).parts ≡ vtt_said text

-- ---- ASS: before a fault
-- a bad time
abbrev pub time_fault : LineSays → ℕ
time_fault (lineFaulty f) = fault_number f
time_fault (line_said c p) = 0

-- the reader stops without a fault behind the last line, else at a line by that line's fault
abbrev pub AssStops : (x : ℕ) → Columns → (n : ℕ) → (rest : List (List ℕ)) → (fault : ℕ) → Type 0
AssStops x c n [] k = k ≡ 0
AssStops x c n (l ∷ ls) k = (k ≡ line_fault x l or_else time_fault (line_says c n l)) × (0 < k)

-- the lines are cut where it stops; no line before has a fault, and the parts are what these lines say, behind the BOM where it was written back
pub record AssBefore (text : List ℕ) : Type 0 where
  pub before : List (List ℕ)
  pub rest : List (List ℕ)
  pub cut : lines_of (behind_bom text) ≡ before ++ rest
  pub passes : (ass_read (fails 0) (bom_length text) no_columns 0 before).fault ≡ 0
  pub parts : (plain_read 0 true text).parts ≡ bom_back 0 true text ++ lines_said no_columns 0 before
  pub stops : AssStops (bom_behind (bom_length text) before) (columns_behind no_columns 0 before) (line_count before) rest (plain_read 0 true text).fault

-- ---- blocks: before a fault
abbrev pub block_time_fault : BlockSays → ℕ
block_time_fault (blockFaulty f) = fault_number f
block_time_fault (block_said p) = 0

abbrev pub body_time_fault : (kind n : ℕ) → (body : List (List ℕ)) → ℕ
body_time_fault kind n [] = 0
body_time_fault kind n (l ∷ ls) = block_time_fault (block_says (style_of kind) (suc n) (l ∷ ls))

abbrev pub first_blank_fault : (x : ℕ) → (blanks : List (List ℕ)) → ℕ
first_blank_fault x [] = 0
first_blank_fault x (l ∷ ls) = line_fault x l

-- a block: 19, 20, 21 of its lines, 19 and 20 of its first blank line, then a bad time
abbrev pub block_fault : (kind x n : ℕ) → (body blanks : List (List ℕ)) → ℕ
block_fault kind x n body blanks = body_fault x 0 body or_else (first_blank_fault (bom_behind x body) blanks or_else body_time_fault kind n body)

-- the reader stops without a fault behind the last block, else at a block by that block's fault
abbrev pub BlocksStop : (kind x n : ℕ) → (rest : List Block) → (fault : ℕ) → Type 0
BlocksStop kind x n [] k = k ≡ 0
BlocksStop kind x n (b ∷ bs) k = (k ≡ block_fault kind x n b.body b.blanks) × (0 < k)

-- the last line is blank
abbrev pub ends_blank : (kind : ℕ) → List (List ℕ) → Bool
ends_blank kind [] = true
ends_blank kind (l ∷ []) = blank_in kind l
ends_blank kind (l ∷ k ∷ ls) = ends_blank kind (k ∷ ls)

-- ---- SRT: the lines are cut where it stops: before a block, or between two blank lines, of which the second has the fault
pub record SrtBefore (text : List ℕ) : Type 0 where
  pub before : List (List ℕ)
  pub rest : List (List ℕ)
  pub cut : lines_of (behind_bom text) ≡ before ++ rest
  pub closed : 0 < (plain_read 1 true text).fault → ends_blank 1 before ≡ true
  pub passes : (blocks_read 1 true (fails 0) (bom_length text) 0 (blocks_of 1 before)).fault ≡ 0
  pub parts : (plain_read 1 true text).parts ≡ bom_back 1 true text ++ blocks_said 1 0 (blocks_of 1 before)
  pub stops : BlocksStop 1 (bom_behind (bom_length text) before) (line_count before) (blocks_of 1 rest) (plain_read 1 true text).fault

-- ---- WebVTT: a text without a first line, or stopped at it, says nothing; else the first line passed, and behind it the lines are cut as SRT's
abbrev pub FirstStops : (x : ℕ) → (lines : List (List ℕ)) → (fault : ℕ) → Type 0
FirstStops x [] k = k ≡ 24
FirstStops x (l ∷ ls) k = (k ≡ head_fault x l) × (0 < k)

pub record VttAtFirst (text : List ℕ) : Type 0 where
  pub parts : (plain_read 2 true text).parts ≡ []
  pub stops : FirstStops (bom_length text) (lines_of (behind_bom text)) (plain_read 2 true text).fault

pub record VttBehind (text : List ℕ) : Type 0 where
  pub head : List ℕ
  pub before : List (List ℕ)
  pub rest : List (List ℕ)
  pub cut : lines_of (behind_bom text) ≡ head ∷ (before ++ rest)
  pub heads : head_fault (bom_length text) head ≡ 0
  pub closed : 0 < (plain_read 2 true text).fault → ends_blank 2 before ≡ true
  pub passes : (blocks_read 2 true (fails 0) 0 1 (blocks_of 2 before)).fault ≡ 0
  pub parts : (plain_read 2 true text).parts ≡ bom_written (starts_bom text) ++ stays head ∷ blocks_said 2 1 (blocks_of 2 before)
  pub stops : BlocksStop 2 0 (suc (line_count before)) (blocks_of 2 rest) (plain_read 2 true text).fault

abbrev pub VttBefore : (text : List ℕ) → Type 0
VttBefore text = VttAtFirst text ⊎ VttBehind text
