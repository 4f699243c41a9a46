-- Faults and their lines by rows: a first line of WebVTT, an ASS line that is the fifth, and a line that makes a block too long, whose own line is the eighth and whose block begins at the third.
use mathlib.Core.Path.{◌≡◌, refl}
use mathlib.Core.List.{List, [], ◌∷◌}
use Prim.Native.Nat.{ℕ}
use lib.ListN.{replicate}
use Rattle.spec_base.specs.base.Refusal.{◌or_else◌, fault_unless}
use Rattle.spec_text.specs.utf8.Utf8.{lead_len, second_low, second_high, tail, width_by, char_width, code_by, code_head, utf8_from, utf8}
use Rattle.spec_text.specs.whitespace.White.{white_high, white, white_head, head_from, trim_head}
use Rattle.spec_text.specs.text.Line.{blank}
use Rattle.spec_ass.specs.ass_columns.Columns.{no_columns}
use Rattle.spec_cue.specs.block_timing.Style.{blank_in}
use Rattle.promise.specs.Plain.{line_fault, head_fault}
use Rattle.spec_rows.specs.declared.caption_rows.Said.{Said}
use Rattle.spec_rows.specs.caption_rows.Walk.{ass_turn, block_turn, head_turn}

-- number and line
abbrev tell : Said → List ℕ
tell s = s.number ∷ s.line ∷ []

pub head_row : tell (head_turn 0 (255 ∷ 10 ∷ [])) ≡ 20 ∷ 1 ∷ []
unfolding head_turn head_fault line_fault fault_unless ◌or_else◌ utf8 utf8_from char_width width_by lead_len second_low second_high tail
head_row = refl

pub line_row : tell (ass_turn 0 no_columns 4 0 (255 ∷ 10 ∷ [])) ≡ 20 ∷ 5 ∷ []
unfolding ass_turn line_fault fault_unless ◌or_else◌ utf8 utf8_from char_width width_by lead_len second_low second_high tail
line_row = refl

pub block_row : tell (block_turn 1 0 0 2 (replicate 4000 97) 7 (replicate 97 97)) ≡ 21 ∷ 3 ∷ []
unfolding block_turn line_fault fault_unless ◌or_else◌ blank_in blank trim_head head_from white_head white white_high code_head code_by char_width width_by lead_len second_low second_high tail utf8 utf8_from
block_row = refl
