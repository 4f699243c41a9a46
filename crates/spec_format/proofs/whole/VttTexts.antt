-- Worked examples of whole WebVTT texts, by computation.
use Prim.Native.Nat.{ℕ}
use Prim.Native.String.{String}
use mathlib.Core.Path.{◌≡◌, refl}
use mathlib.Core.Bool.{true}
use mathlib.Core.List.{List, [], ◌∷◌, ◌++◌}
use Rattle.spec_base.specs.base.Ascii.{ascii}
use Rattle.spec_base.specs.base.Part.{last}
use Rattle.spec_text.specs.utf8.Utf8.{lead_len, second_low, second_high, tail, width_by, char_width, code_by, code_head}
use Rattle.spec_text.specs.whitespace.White.{white_high, white, white_head, ends_white, white_tail, head_from, keep_from, trim_head, trim_tail, trim}
use Rattle.spec_text.specs.pattern.Find.{starts, first, contains, up_to, past}
use Rattle.spec_text.specs.text.Number.{digit, digits, value_from, natural, unsigned, number}
use Rattle.spec_text.specs.text.Line.{lines_of, text_of, terminator_length, terminator_of}
use Rattle.spec_time.specs.caption_time.Kind.{kind_bad}
use Rattle.spec_time.specs.caption_stamp.Read.{wide_by, wide_from, vtt_time, time_in}
use Rattle.spec_caption.specs.caption_fate.Says.{stays, cue}
use Rattle.spec_caption.specs.caption_fate.Bom.{bom}
use Rattle.spec_cue.specs.block_timing.Style.{vtt_end, end_in, stamp_head, stamp_in, stamps_in, blank_in}
use Rattle.spec_cue.specs.block_timing.Arrow.{timing_of, after_arrow}
use Rattle.spec_cue.specs.block_cue.Block.{block_frame, block_cue, timing_line_says, block_says}
use Rattle.spec_format.specs.whole.Srt.{blocks_of, blocks_said}
use Rattle.spec_format.specs.whole.Vtt.{vtt_said}

abbrev line : String → List ℕ
line s = ascii s ++ 10 ∷ []

-- the first line is in no block, so its arrow is none; a block may follow it directly, and its timing line is the text's second; a line of
-- one space is not blank
parts : vtt_said (bom ++ line "WEBVTT a --> b" ++ line "00:01.000 --> 00:02.000 align:start" ++ line "a <1" ++ line " " ++ line "" ++ line "NOTE" ++ ascii "c") ≡
    stays bom ∷ stays (line "WEBVTT a --> b") ∷ cue (block_cue 2 1000 46 2000 46 true (block_frame [] (ascii " align:start") (10 ∷ []) (line "a <1" ++ line " ")))
    ∷ stays (line "") ∷ stays (line "NOTE" ++ ascii "c") ∷ []
unfolding lead_len second_low second_high tail width_by char_width code_by code_head white_high white white_head last ends_white white_tail head_from keep_from trim_head trim_tail trim starts first contains up_to past digit digits value_from natural unsigned number lines_of text_of terminator_length terminator_of kind_bad wide_by wide_from vtt_time time_in vtt_end end_in stamp_head stamp_in stamps_in blank_in timing_of after_arrow timing_line_says block_says blocks_of blocks_said vtt_said
parts = refl

-- a bad time ends the text; CR LF alone is blank
bad_time : vtt_said (line "WEBVTT" ++ 13 ∷ 10 ∷ [] ++ line "00:01.000 --> 0:02.000" ++ line "" ++ line "b") ≡ stays (line "WEBVTT") ∷ stays (13 ∷ 10 ∷ []) ∷ []
unfolding lead_len second_low second_high tail width_by char_width code_by code_head white_high white white_head last ends_white white_tail head_from keep_from trim_head trim_tail trim starts first contains up_to past digit digits value_from natural unsigned number lines_of text_of terminator_length terminator_of kind_bad wide_by wide_from vtt_time time_in vtt_end end_in stamp_head stamp_in stamps_in blank_in timing_of after_arrow timing_line_says block_says blocks_of blocks_said vtt_said
bad_time = refl
