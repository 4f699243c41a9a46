-- Lines and ends by rows: WebVTT's first line, blocks of 4,096 and 4,097 bytes, a BOM behind the first line, and the number of a block's timing line.
use mathlib.Core.Path.{◌≡◌, refl}
use mathlib.Core.Bool.{Bool, true, false}
use mathlib.Core.List.{List, [], ◌∷◌, ◌++◌}
use Prim.Native.Nat.{ℕ}
use lib.ListN.{replicate}
use Rattle.spec_base.specs.base.Ascii.{ascii}
use Rattle.spec_base.specs.base.Part.{last}
use Rattle.spec_text.specs.utf8.Utf8.{lead_len, second_low, second_high, tail, width_by, char_width, code_by, code_head, utf8_from, utf8}
use Rattle.spec_text.specs.whitespace.White.{white_high, white, white_head, ends_white, white_tail, head_from, keep_from, trim_head, trim_tail, trim}
use Rattle.spec_text.specs.pattern.Find.{starts, first, contains, up_to, past}
use Rattle.spec_text.specs.text.Number.{digit, digits, value_from, natural, unsigned, number}
use Rattle.spec_text.specs.text.Line.{blank, text_of, terminator_length, terminator_of}
use Rattle.spec_time.specs.caption_time.Kind.{kind_bad, units_of, mark_of}
use Rattle.spec_time.specs.caption_stamp.Read.{mark_in, time_with, time_in}
use Rattle.spec_caption.specs.caption_fate.Says.{Part, stays, passes, cue, fault_number}
use Rattle.spec_cue.specs.block_timing.Style.{srt_end, end_in, stamps_in, blank_in}
use Rattle.spec_cue.specs.block_timing.Arrow.{timing_of, after_arrow}
use Rattle.spec_cue.specs.block_timing.Header.{is_header, header_due}
use Rattle.spec_cue.specs.block_cue.Block.{timing_line_says, block_says}
use Rattle.spec_machine.specs.session_counts.Machine.{Says, faulty, says, has_bom, take_line}
use Rattle.spec_machine.specs.kinds.Takes.{State, blank_state, with_block, takes, line_takes, block_takes, head_takes, ends, block_ends, machine_of}

-- the fault's number, or the lines of the first cue and how many lines the block then has
abbrev line_in : List Part → ℕ
line_in [] = 0
line_in (stays l ∷ ps) = 0
line_in (passes r n l ∷ ps) = n
line_in (cue q ∷ ps) = q.line

abbrev block_in : List (List ℕ) → ℕ
block_in [] = 0
block_in (l ∷ ls) = 1

abbrev tell : Says State → List ℕ
tell (faulty f) = fault_number f ∷ []
tell (says s ps) = 0 ∷ line_in ps ∷ block_in s.block ∷ []

-- no `WEBVTT` on the first line, and none at all: 24
pub header_rows : tell (takes 2 blank_state 0 (ascii "WEBVT" ++ 10 ∷ [])) ++ tell (ends 2 blank_state 0) ++ tell (ends 2 blank_state 1) ≡ 24 ∷ 24 ∷ 0 ∷ 0 ∷ 0 ∷ []
unfolding takes head_takes ends block_ends is_header header_due starts text_of terminator_length utf8 utf8_from char_width width_by lead_len second_low second_high tail
header_rows = refl

-- a block of 4,000 bytes takes 96 more, not 97 (21)
pub block_rows :
    tell (takes 1 (with_block (replicate 4000 97 ∷ []) blank_state) 1 (replicate 96 97)) ++ tell (takes 1 (with_block (replicate 4000 97 ∷ []) blank_state) 1 (replicate 97 97))
    ≡ 0 ∷ 0 ∷ 1 ∷ 21 ∷ []
unfolding takes block_takes header_due blank_in blank trim_head head_from white_head white white_high code_head code_by char_width width_by lead_len second_low second_high tail utf8 utf8_from
block_rows = refl

-- the second line keeps what would be a BOM on the first
pub mark_row : take_line (machine_of 1) blank_state 1 (0xEF ∷ 0xBB ∷ 0xBF ∷ 97 ∷ 10 ∷ []) ≡ says (with_block ((0xEF ∷ 0xBB ∷ 0xBF ∷ 97 ∷ 10 ∷ []) ∷ []) blank_state) []
unfolding takes block_takes header_due has_bom starts blank_in blank trim_head head_from white_head white white_high code_head code_by char_width width_by lead_len second_low second_high tail utf8 utf8_from
mark_row = refl

-- a blank line after lines 4 and 5 ends their block, whose timing line is line 5, and none is open behind it
pub number_row :
    tell (takes 1 (with_block ((55 ∷ 10 ∷ []) ∷ (ascii "0:0:1,0 --> 0:0:2,0" ++ 10 ∷ []) ∷ []) blank_state) 5 (10 ∷ [])) ≡ 0 ∷ 5 ∷ 0 ∷ []
unfolding takes block_takes header_due blank_in blank trim_head head_from white_head white white_high code_head code_by char_width width_by lead_len second_low second_high tail utf8 utf8_from
    block_says timing_line_says timing_of after_arrow srt_end end_in stamps_in text_of terminator_length terminator_of starts first contains up_to past
    digit digits value_from natural unsigned number kind_bad units_of mark_of mark_in time_with time_in last ends_white white_tail keep_from trim_tail trim
number_row = refl
