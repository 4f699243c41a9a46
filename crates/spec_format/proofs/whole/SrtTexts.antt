-- Worked examples of whole SRT texts, by computation.
use Prim.Native.Nat.{ℕ}
use Prim.Native.String.{String}
use mathlib.Core.Bool.{false}
use mathlib.Core.Path.{◌≡◌, refl}
use mathlib.Core.List.{List, [], ◌∷◌, ◌++◌}
use Rattle.spec_base.specs.base.Ascii.{ascii}
use Rattle.spec_base.specs.base.Part.{last}
use Rattle.spec_text.specs.utf8.Utf8.{lead_len, second_low, second_high, tail, width_by, char_width, code_by, code_head}
use Rattle.spec_text.specs.whitespace.White.{white_high, white, white_head, ends_white, white_tail, head_from, keep_from, trim_head, trim_tail, trim}
use Rattle.spec_text.specs.pattern.Find.{starts, first, contains, up_to, past}
use Rattle.spec_text.specs.text.Number.{digit, digits, value_from, natural, unsigned, number}
use Rattle.spec_text.specs.text.Line.{lines_of, text_of, terminator_length, terminator_of, blank}
use Rattle.spec_time.specs.caption_time.Kind.{kind_bad, units_of, mark_of}
use Rattle.spec_time.specs.caption_stamp.Read.{mark_in, time_with, time_in}
use Rattle.spec_caption.specs.caption_fate.Says.{stays, cue}
use Rattle.spec_caption.specs.caption_fate.Bom.{bom}
use Rattle.spec_cue.specs.block_timing.Style.{srt_end, end_in, stamps_in, blank_in}
use Rattle.spec_cue.specs.block_timing.Arrow.{timing_of, after_arrow}
use Rattle.spec_cue.specs.block_cue.Block.{block_frame, block_cue, timing_line_says, block_says}
use Rattle.spec_format.specs.whole.Srt.{block_of, blocks_of, blocks_said, text_blocks, srt_said}

abbrev line : String → List ℕ
line s = ascii s ++ 10 ∷ []

-- blank lines at the head, a block with its two blank lines, and a last block without one
abbrev sample : List ℕ
sample = bom ++ line "" ++ line "7" ++ line "0:0:1,5 --> 0:0:2,5" ++ line "a" ++ line "" ++ line " " ++ line "b" ++ ascii "c"

blocks : text_blocks sample ≡
    block_of [] (line "" ∷ []) ∷ block_of (line "7" ∷ line "0:0:1,5 --> 0:0:2,5" ∷ line "a" ∷ []) (line "" ∷ line " " ∷ []) ∷ block_of (line "b" ∷ ascii "c" ∷ []) [] ∷ []
unfolding lead_len second_low second_high tail width_by char_width code_by code_head white_high white white_head head_from trim_head starts lines_of blank blank_in blocks_of
blocks = refl

-- a BOM stays, as do blank lines; the timing line is the text's third; a block without one passes
parts : srt_said sample ≡
    stays bom ∷ stays (line "") ∷ cue (block_cue 3 1005 44 2005 44 false (block_frame (line "7") [] (10 ∷ []) (line "a"))) ∷ stays (line "") ∷ stays (line " ") ∷ stays (line "b" ++ ascii "c") ∷ []
unfolding lead_len second_low second_high tail width_by char_width code_by code_head white_high white white_head last ends_white white_tail head_from keep_from trim_head trim_tail trim starts first contains up_to past digit digits value_from natural unsigned number lines_of text_of terminator_length terminator_of blank kind_bad units_of mark_of time_with mark_in time_in srt_end end_in stamps_in blank_in timing_of after_arrow timing_line_says block_says blocks_of blocks_said srt_said
parts = refl

-- a bad time ends the text
bad_time : srt_said (line "a" ++ line "" ++ line "0:0:1,5 --> x" ++ line "" ++ line "b") ≡ stays (line "a") ∷ stays (line "") ∷ []
unfolding lead_len second_low second_high tail width_by char_width code_by code_head white_high white white_head last ends_white white_tail head_from keep_from trim_head trim_tail trim starts first contains up_to past digit digits value_from natural unsigned number lines_of text_of terminator_length terminator_of blank kind_bad units_of mark_of time_with mark_in time_in srt_end end_in stamps_in blank_in timing_of after_arrow timing_line_says block_says blocks_of blocks_said srt_said
bad_time = refl
