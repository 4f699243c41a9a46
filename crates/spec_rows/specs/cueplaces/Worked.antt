-- WORKED ROWS, worked out by hand: a text of each kind, the lent places from both sides, and faults with their lines.
use Rattle.std.specs.Prelude.{◌≡◌, List, [], ◌∷◌, ◌++◌, ℕ, length}
use Rattle.spec_base.specs.base.Ascii.{ascii}
use Rattle.spec_caption.specs.caption_fate.Bom.{bom}
use Rattle.spec_rows.specs.caption_rows.Cues.{cues_number, cues_told}
use Rattle.spec_rows.specs.cueplaces.Rows.{rows_in}

-- ---- ASS: line 3 begins at byte 31, and its last field keeps its comma; line 4 has one field of three
abbrev pub ass_text : List ℕ
ass_text = ascii "[Events]\nFormat:Start,End,Text\nDialogue:0:0:0.21,0:0:0.25,a,b\nComment:x\n"

abbrev pub ass_rows : List ℕ
ass_rows = 3 ∷ 0 ∷ 21 ∷ 25 ∷ 58 ∷ 3 ∷ 4 ∷ 2 ∷ 0 ∷ 0 ∷ 62 ∷ 9 ∷ []

-- ---- SRT, behind a BOM: the words begin behind the timing line
abbrev pub srt_text : List ℕ
srt_text = bom ++ ascii "1\n0:0:1,5 --> 0:0:2.5\na\nb\n\n"

-- ---- WebVTT: the last line needs no terminator
abbrev pub vtt_text : List ℕ
vtt_text = ascii "WEBVTT\n\n00:01.500 --> 00:02.000 x\nHi"

-- a bad time in line 4, behind the caption of line 3
abbrev pub ass_fault : List ℕ
ass_fault = ascii "[Events]\nFormat:Start,End\nDialogue:0:0:0.21,0:0:0.25\nDialogue:0:60:0.0,0:0:0.25\n"

pub record Worked : Type 0 where
  pub ass : rows_in 0 ass_text ≡ ass_rows
  pub srt : rows_in 1 srt_text ≡ 2 ∷ 0 ∷ 1005 ∷ 2005 ∷ 25 ∷ 4 ∷ []
  pub vtt : rows_in 2 vtt_text ≡ 3 ∷ 0 ∷ 1500 ∷ 2000 ∷ 34 ∷ 2 ∷ []
  pub told : cues_told 0 ass_text ≡ 2 ∷ 0 ∷ []
  -- six places for each of two captions; two told places; kinds 0 to 2
  pub places_enough : cues_number 0 ass_text 12 2 ≡ 0
  pub places_few : cues_number 0 ass_text 11 2 ≡ 16
  pub told_few : cues_number 0 ass_text 12 1 ≡ 16
  pub kind_last : cues_number 2 vtt_text 6 2 ≡ 0
  pub kind_next : cues_number 3 vtt_text 6 2 ≡ 16
  -- faults: the number, the captions before, the line
  pub line_22 : cues_number 0 ass_fault 6 2 ≡ 22
  pub told_22 : cues_told 0 ass_fault ≡ 1 ∷ 4 ∷ []
  pub rows_22 : rows_in 0 ass_fault ≡ 3 ∷ 0 ∷ 21 ∷ 25 ∷ 52 ∷ 0 ∷ []
  pub few_22 : cues_number 0 ass_fault 5 2 ≡ 16
  pub block_22 : cues_told 1 (ascii "\n1\n0:0:1,5 --> x\nHi\n\n") ≡ 0 ∷ 3 ∷ []
  pub line_20 : cues_number 1 (ascii "1\n0:0:1,5 --> x\n" ++ 0xFF ∷ 10 ∷ []) 0 2 ≡ 20
  pub told_20 : cues_told 1 (ascii "1\n0:0:1,5 --> x\n" ++ 0xFF ∷ 10 ∷ []) ≡ 0 ∷ 3 ∷ []
  pub line_24 : cues_number 2 (ascii "WEBVTTX\n") 0 2 ≡ 24
  pub told_24 : cues_told 2 (ascii "WEBVTTX\n") ≡ 0 ∷ 1 ∷ []
  pub none_24 : cues_number 2 [] 0 2 ≡ 24
  pub told_none : cues_told 2 [] ≡ 0 ∷ 1 ∷ []

-- a text of one byte more than 2^30 is 16, whatever else
abbrev pub TextNext : Type 0
TextNext = (kind lent told : ℕ) (text : List ℕ) → length text ≡ 1073741825 → cues_number kind text lent told ≡ 16
