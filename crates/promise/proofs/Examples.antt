-- Worked examples of the plain reader, by computation: BOM, open blocks, the order of faults, line numbers.
use Prim.Native.Nat.{ℕ}
use Prim.Native.String.{String}
use mathlib.Core.Path.{◌≡◌, refl}
use mathlib.Core.Bool.{true, false}
use mathlib.Core.List.{List, [], ◌∷◌, ◌++◌}
use Rattle.spec_base.specs.base.Ascii.{ascii}
use Rattle.spec_base.specs.base.Part.{last}
use Rattle.spec_base.specs.base.Refusal.{◌or_else◌, fault_unless}
use Rattle.spec_text.specs.utf8.Utf8.{lead_len, second_low, second_high, tail, width_by, char_width, utf8_from, utf8, code_by, code_head}
use Rattle.spec_text.specs.whitespace.White.{white_high, white, white_head, ends_white, white_tail, head_from, keep_from, trim_head, trim_tail, trim}
use Rattle.spec_text.specs.pattern.Find.{starts, equals, first, contains, up_to, past}
use Rattle.spec_text.specs.pattern.Piece.{pieces_from, pieces}
use Rattle.spec_text.specs.text.Number.{digit, digits, value_from, natural, unsigned, number}
use Rattle.spec_text.specs.text.Line.{lines_of, text_of, terminator_length, terminator_of, blank}
use Rattle.spec_time.specs.caption_time.Kind.{kind_bad, units_of, mark_of}
use Rattle.spec_time.specs.caption_stamp.Read.{mark_in, time_with, time_in}
use Rattle.spec_caption.specs.caption_fate.Says.{bytes, start, stop, unplaced, stays, passes, cue}
use Rattle.spec_ass.specs.ass_columns.Columns.{names_in, place_in, columns_in, fields, field_at}
use Rattle.spec_ass.specs.ass_write.Tags.{holds_any}
use Rattle.spec_ass.specs.ass_line.Line.{caption_says, word_says, text_says, line_says}
use Rattle.spec_ass.specs.ass_columns.Section.{bracketed, inside}
use Rattle.spec_ass.specs.ass_write.Frame.{piece_at, field_pieces}
use Rattle.spec_cue.specs.block_timing.Style.{blank_in, srt_end, end_in, stamps_in}
use Rattle.spec_cue.specs.block_timing.Arrow.{timing_of, after_arrow}
use Rattle.spec_cue.specs.block_cue.Block.{block_frame, block_cue, timing_line_says as blockLineSays, block_says}
use Rattle.spec_format.specs.whole.Srt.{blocks_of}
use Rattle.spec_caption.specs.caption_fate.Bom.{bom}
use Rattle.spec_machine.specs.session_counts.Reader.{reading, fails}
use Rattle.promise.specs.Plain.{line_fault, body_line_fault, ass_read, body_fault, blocks_read, lines_say, plain_read}

abbrev line : String → List ℕ
line s = ascii s ++ 10 ∷ []

-- a BOM alone is no line, and is written back at finish
bom_at_finish : plain_read 0 true bom ≡ reading 0 (stays bom ∷ [])
unfolding lead_len second_low second_high tail width_by char_width utf8_from utf8 code_by code_head white_high white white_head last ends_white white_tail head_from keep_from trim_head trim_tail trim starts equals first contains up_to past pieces_from pieces digit digits value_from natural unsigned number lines_of text_of terminator_length terminator_of blank kind_bad units_of mark_of time_with mark_in time_in srt_end end_in stamps_in blank_in timing_of after_arrow blockLineSays block_says names_in place_in columns_in fields field_at holds_any bracketed inside piece_at field_pieces caption_says word_says text_says line_says fault_unless ◌or_else◌ line_fault body_line_fault ass_read blocks_of body_fault blocks_read lines_say plain_read
bom_at_finish = refl

-- until then it is only held
bom_held : plain_read 0 false bom ≡ fails 0
unfolding lead_len second_low second_high tail width_by char_width utf8_from utf8 code_by code_head white_high white white_head last ends_white white_tail head_from keep_from trim_head trim_tail trim starts equals first contains up_to past pieces_from pieces digit digits value_from natural unsigned number lines_of text_of terminator_length terminator_of blank kind_bad units_of mark_of time_with mark_in time_in srt_end end_in stamps_in blank_in timing_of after_arrow blockLineSays block_says names_in place_in columns_in fields field_at holds_any bracketed inside piece_at field_pieces caption_says word_says text_says line_says fault_unless ◌or_else◌ line_fault body_line_fault ass_read blocks_of body_fault blocks_read lines_say plain_read
bom_held = refl

-- part of a BOM at finish is a last line, and not UTF-8
bom_cut : plain_read 1 true (0xEF ∷ 0xBB ∷ []) ≡ fails 20
unfolding lead_len second_low second_high tail width_by char_width utf8_from utf8 code_by code_head white_high white white_head last ends_white white_tail head_from keep_from trim_head trim_tail trim starts equals first contains up_to past pieces_from pieces digit digits value_from natural unsigned number lines_of text_of terminator_length terminator_of blank kind_bad units_of mark_of time_with mark_in time_in srt_end end_in stamps_in blank_in timing_of after_arrow blockLineSays block_says names_in place_in columns_in fields field_at holds_any bracketed inside piece_at field_pieces caption_says word_says text_says line_says fault_unless ◌or_else◌ line_fault body_line_fault ass_read blocks_of body_fault blocks_read lines_say plain_read
bom_cut = refl

-- the first line passes its checks, and the BOM stays when the finish then answers 22
bom_stays : plain_read 1 true (bom ++ ascii "x-->y") ≡ reading 22 (stays bom ∷ [])
unfolding lead_len second_low second_high tail width_by char_width utf8_from utf8 code_by code_head white_high white white_head last ends_white white_tail head_from keep_from trim_head trim_tail trim starts equals first contains up_to past pieces_from pieces digit digits value_from natural unsigned number lines_of text_of terminator_length terminator_of blank kind_bad units_of mark_of time_with mark_in time_in srt_end end_in stamps_in blank_in timing_of after_arrow blockLineSays block_says names_in place_in columns_in fields field_at holds_any bracketed inside piece_at field_pieces caption_says word_says text_says line_says fault_unless ◌or_else◌ line_fault body_line_fault ass_read blocks_of body_fault blocks_read lines_say plain_read
bom_stays = refl

-- an open block is left out
open_block : plain_read 1 false (line "a" ++ line "" ++ line "b") ≡ reading 0 (stays (line "a") ∷ stays (line "") ∷ [])
unfolding lead_len second_low second_high tail width_by char_width utf8_from utf8 code_by code_head white_high white white_head last ends_white white_tail head_from keep_from trim_head trim_tail trim starts equals first contains up_to past pieces_from pieces digit digits value_from natural unsigned number lines_of text_of terminator_length terminator_of blank kind_bad units_of mark_of time_with mark_in time_in srt_end end_in stamps_in blank_in timing_of after_arrow blockLineSays block_says names_in place_in columns_in fields field_at holds_any bracketed inside piece_at field_pieces caption_says word_says text_says line_says fault_unless ◌or_else◌ line_fault body_line_fault ass_read blocks_of body_fault blocks_read lines_say plain_read
open_block = refl

-- a finish closes it
closed_block : plain_read 1 true (line "a" ++ line "" ++ line "b") ≡ reading 0 (stays (line "a") ∷ stays (line "") ∷ stays (line "b") ∷ [])
unfolding lead_len second_low second_high tail width_by char_width utf8_from utf8 code_by code_head white_high white white_head last ends_white white_tail head_from keep_from trim_head trim_tail trim starts equals first contains up_to past pieces_from pieces digit digits value_from natural unsigned number lines_of text_of terminator_length terminator_of blank kind_bad units_of mark_of time_with mark_in time_in srt_end end_in stamps_in blank_in timing_of after_arrow blockLineSays block_says names_in place_in columns_in fields field_at holds_any bracketed inside piece_at field_pieces caption_says word_says text_says line_says fault_unless ◌or_else◌ line_fault body_line_fault ass_read blocks_of body_fault blocks_read lines_say plain_read
closed_block = refl

-- a line that is not UTF-8 behind an open block: 20, and the block is left out
fault_in_block : plain_read 1 true (line "a" ++ 0xFF ∷ 10 ∷ []) ≡ fails 20
unfolding lead_len second_low second_high tail width_by char_width utf8_from utf8 code_by code_head white_high white white_head last ends_white white_tail head_from keep_from trim_head trim_tail trim starts equals first contains up_to past pieces_from pieces digit digits value_from natural unsigned number lines_of text_of terminator_length terminator_of blank kind_bad units_of mark_of time_with mark_in time_in srt_end end_in stamps_in blank_in timing_of after_arrow blockLineSays block_says names_in place_in columns_in fields field_at holds_any bracketed inside piece_at field_pieces caption_says word_says text_says line_says fault_unless ◌or_else◌ line_fault body_line_fault ass_read blocks_of body_fault blocks_read lines_say plain_read
fault_in_block = refl

-- a blank line ends the block before it, whose bad time is 22
bad_time : plain_read 1 false (line "1" ++ line "0:0:1,5 --> x" ++ line "" ++ line "b") ≡ fails 22
unfolding lead_len second_low second_high tail width_by char_width utf8_from utf8 code_by code_head white_high white white_head last ends_white white_tail head_from keep_from trim_head trim_tail trim starts equals first contains up_to past pieces_from pieces digit digits value_from natural unsigned number lines_of text_of terminator_length terminator_of blank kind_bad units_of mark_of time_with mark_in time_in srt_end end_in stamps_in blank_in timing_of after_arrow blockLineSays block_says names_in place_in columns_in fields field_at holds_any bracketed inside piece_at field_pieces caption_says word_says text_says line_says fault_unless ◌or_else◌ line_fault body_line_fault ass_read blocks_of body_fault blocks_read lines_say plain_read
bad_time = refl

-- blank lines in front are a block without a body; the timing line is the text's fourth
line_numbers : plain_read 1 true (line "" ++ line " " ++ line "7" ++ line "0:0:1,5 --> 0:0:2,5") ≡ reading 0 (stays (line "") ∷ stays (line " ") ∷ cue (block_cue 4 1005 44 2005 44 false (block_frame (line "7") [] (10 ∷ []) [])) ∷ [])
unfolding lead_len second_low second_high tail width_by char_width utf8_from utf8 code_by code_head white_high white white_head last ends_white white_tail head_from keep_from trim_head trim_tail trim starts equals first contains up_to past pieces_from pieces digit digits value_from natural unsigned number lines_of text_of terminator_length terminator_of blank kind_bad units_of mark_of time_with mark_in time_in srt_end end_in stamps_in blank_in timing_of after_arrow blockLineSays block_says names_in place_in columns_in fields field_at holds_any bracketed inside piece_at field_pieces caption_says word_says text_says line_says fault_unless ◌or_else◌ line_fault body_line_fault ass_read blocks_of body_fault blocks_read lines_say plain_read
line_numbers = refl

-- an ASS text: the Format line places the columns, and a last line needs no terminator
ass_cue_lem : plain_read 0 true (line "[Events]" ++ line "Format:Start,End" ++ ascii "Dialogue:0:0:0.21,0:0:0.25") ≡ reading 0 (stays (line "[Events]") ∷ stays (line "Format:Start,End") ∷ cue (record { line = 3; start = 21; start_mark = 46; stop = 25; stop_mark = 46; tagged = false; stamped = false; frame = bytes (ascii "Dialogue:") ∷ start ∷ bytes (ascii ",") ∷ stop ∷ bytes [] ∷ [] }) ∷ [])
unfolding lead_len second_low second_high tail width_by char_width utf8_from utf8 code_by code_head white_high white white_head last ends_white white_tail head_from keep_from trim_head trim_tail trim starts equals first contains up_to past pieces_from pieces digit digits value_from natural unsigned number lines_of text_of terminator_length terminator_of blank kind_bad units_of mark_of time_with mark_in time_in srt_end end_in stamps_in blank_in timing_of after_arrow blockLineSays block_says names_in place_in columns_in fields field_at holds_any bracketed inside piece_at field_pieces caption_says word_says text_says line_says fault_unless ◌or_else◌ line_fault body_line_fault ass_read blocks_of body_fault blocks_read lines_say plain_read
ass_cue_lem = refl

-- outside Events a Format line counts for nothing; columns unknown: the caption passes
ass_unplaced : plain_read 0 false (line "Format:Start,End" ++ line "[Events]" ++ line "Comment:x") ≡ reading 0 (stays (line "Format:Start,End") ∷ stays (line "[Events]") ∷ passes unplaced 3 (line "Comment:x") ∷ [])
unfolding lead_len second_low second_high tail width_by char_width utf8_from utf8 code_by code_head white_high white white_head last ends_white white_tail head_from keep_from trim_head trim_tail trim starts equals first contains up_to past pieces_from pieces digit digits value_from natural unsigned number lines_of text_of terminator_length terminator_of blank kind_bad units_of mark_of time_with mark_in time_in srt_end end_in stamps_in blank_in timing_of after_arrow blockLineSays block_says names_in place_in columns_in fields field_at holds_any bracketed inside piece_at field_pieces caption_says word_says text_says line_says fault_unless ◌or_else◌ line_fault body_line_fault ass_read blocks_of body_fault blocks_read lines_say plain_read
ass_unplaced = refl
