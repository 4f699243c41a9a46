-- THE ROWS OF A TEXT, one by one: they stand in the text's order, each on a line of its own, and the words of each are a part of the caption's own line or block: in ASS
-- the last field, in SRT and WebVTT the lines below the timing line.
use Rattle.std.specs.Prelude.{◌≡◌, ◌⊎◌, Bool, true, false, cond, List, [], ◌∷◌, ◌++◌, ℕ, zero, suc, ◌+◌, ◌≤◌, ◌<◌, eqb, length, take, drop}
use Rattle.spec_text.specs.text.Line.{lines_of, concat, line_count, text_of}
use Rattle.spec_time.specs.caption_time.Kind.{kind_bad}
use Rattle.spec_caption.specs.caption_fate.Bom.{behind_bom}
use Rattle.spec_ass.specs.declared.ass_columns.Columns.{Columns}
use Rattle.spec_ass.specs.ass_columns.Columns.{fields, field_at, no_columns}
use Rattle.spec_ass.specs.ass_line.Line.{dialogue_word, comment_word}
use Rattle.spec_cue.specs.block_timing.Style.{blank_in}
use Rattle.spec_cue.specs.block_timing.Arrow.{timed, timing_of}
use Rattle.spec_format.specs.whole.Ass.{columns_behind}
use Rattle.promise.specs.Plain.{bom_length, plain_read}
use Rattle.promise.specs.Whole.{ends_blank}
use Rattle.spec_rows.specs.caption_rows.Cues.{rows_of}
use Rattle.spec_rows.specs.cueplaces.FaultLine.{none_blank, head_lines}

-- the rows of a text
abbrev pub rows_in : (kind : ℕ) → (text : List ℕ) → List ℕ
rows_in kind text = rows_of kind text (plain_read kind true text).parts

-- the k bytes from byte i on
abbrev pub bytes_at : (i k : ℕ) → List ℕ → List ℕ
bytes_at i k t = take k (drop i t)

-- the byte at which what stands behind some lines of a text begins
abbrev pub byte_behind : (text : List ℕ) → (before : List (List ℕ)) → ℕ
byte_behind t before = bom_length t + length (concat before)

-- ---- ASS
-- the last field; nothing where that column is a time's
abbrev pub last_field : Columns → List (List ℕ) → List ℕ
last_field c fs = cond (eqb c.columns c.«end») [] (cond (eqb c.columns c.start) [] (field_at c.columns fs))

-- of what stands behind `Dialogue:` or `Comment:`, by the columns c
pub record FieldWords (c : Columns) (line words : List ℕ) : Type 0 where
  pub word : List ℕ
  pub rest : List ℕ
  pub named : (word ≡ dialogue_word) ⊎ (word ≡ comment_word)
  pub text : text_of line ≡ word ++ rest
  pub enough : length (fields c.columns rest) ≡ c.columns
  pub last : words ≡ last_field c (fields c.columns rest)

-- a caption that passes has its whole line
abbrev pub LineWords : (warned : ℕ) → Columns → (line words : List ℕ) → Type 0
LineWords zero c l w = FieldWords c l w
LineWords (suc k) c l w = w ≡ text_of l

-- the row's line, and its k bytes from byte i on, by the columns that the lines before leave
pub record LineRow (text : List ℕ) (n warned i k : ℕ) : Type 0 where
  pub before : List (List ℕ)
  pub line : List ℕ
  pub behind : List (List ℕ)
  pub cut : lines_of (behind_bom text) ≡ before ++ (line ∷ behind)
  pub number : n ≡ suc (line_count before)
  pub from : byte_behind text before ≤ i
  pub to : i + k ≤ byte_behind text before + length (text_of line)
  pub words : LineWords warned (columns_behind no_columns 0 before) line (bytes_at i k text)

-- ---- SRT, WebVTT: the row's block: none of its lines is blank, and before it and behind it stands a blank line, or none that could be of it; the first line with an arrow is the row's
abbrev pub blank_next : (kind : ℕ) → List (List ℕ) → Bool
blank_next kind [] = true
blank_next kind (l ∷ ls) = blank_in kind l

pub record BlockRow (kind : ℕ) (text : List ℕ) (n warned i k : ℕ) : Type 0 where
  pub before : List (List ℕ)
  pub above : List (List ℕ)
  pub timing : List ℕ
  pub below : List (List ℕ)
  pub behind : List (List ℕ)
  pub cut : lines_of (behind_bom text) ≡ before ++ ((above ++ (timing ∷ below)) ++ behind)
  pub filled : none_blank kind (above ++ (timing ∷ below)) ≡ true
  pub opens : ends_blank kind (drop (head_lines kind) before) ≡ true
  pub closes : blank_next kind behind ≡ true
  pub arrow : timing_of (above ++ (timing ∷ below)) ≡ timed above timing below
  pub number : n ≡ suc (line_count before) + line_count above
  pub place : i ≡ byte_behind text (before ++ (above ++ (timing ∷ [])))
  pub words : bytes_at i k text ≡ concat below
  pub size : k ≡ length (concat below)
  pub times : warned ≡ 0

abbrev pub RowStands : (kind : ℕ) → (text : List ℕ) → (n warned i k : ℕ) → Type 0
RowStands zero text n w i k = LineRow text n w i k
RowStands (suc j) text n w i k = BlockRow (suc j) text n w i k

-- ---- the rows, six numbers each: each on a line behind that of the row before it
abbrev pub RowsStand : (kind : ℕ) → (text : List ℕ) → (above : ℕ) → List ℕ → Type 0
RowsStand kind text above (n ∷ w ∷ S ∷ E ∷ i ∷ k ∷ l) = (above < n) × (RowStands kind text n w i k × RowsStand kind text n l)
RowsStand kind text above (n ∷ w ∷ S ∷ E ∷ i ∷ []) = ⊥
RowsStand kind text above (n ∷ w ∷ S ∷ E ∷ []) = ⊥
RowsStand kind text above (n ∷ w ∷ S ∷ []) = ⊥
RowsStand kind text above (n ∷ w ∷ []) = ⊥
RowsStand kind text above (n ∷ []) = ⊥
RowsStand kind text above [] = Unit {0}

abbrev pub RowsInPlace : Type 0
RowsInPlace = (kind : ℕ) (text : List ℕ) → kind_bad kind ≡ false → RowsStand kind text 0 (rows_in kind text)
