-- Four calls on an SRT text, by computation: cues clipped, dropped with their blocks and shifted, the last one at finish.
use Prim.Native.Nat.{ℕ}
use mathlib.Core.Path.{◌≡◌, refl, ap, ◌∙◌}
use mathlib.Core.Bool.{true, false}
use mathlib.Core.List.{List, [], ◌∷◌, ◌++◌}
use lib.ListN.{length, replicate, length-replicate}
use Rattle.spec_base.specs.base.Part.{last}
use Rattle.spec_base.specs.base.Refusal.{◌or_else◌, fault_unless}
use Rattle.spec_text.specs.utf8.Utf8.{lead_len, second_low, second_high, tail, width_by, char_width, utf8_from, utf8, code_by, code_head}
use Rattle.spec_text.specs.whitespace.White.{white_high, white, white_head, ends_white, white_tail, head_from, keep_from, trim_head, trim_tail, trim}
use Rattle.spec_text.specs.pattern.Find.{starts, equals, first, contains, up_to, past}
use Rattle.spec_text.specs.pattern.Piece.{pieces_from, pieces}
use Rattle.spec_text.specs.text.Number.{digit, digits, value_from, natural, unsigned, number}
use Rattle.spec_text.specs.text.Line.{lines_of, text_of, terminator_length, terminator_of, blank}
use Rattle.spec_time.specs.caption_time.Kind.{kind_bad, units_of, mark_of, fraction_digits, hour_digits}
use Rattle.spec_time.specs.caption_time.Convert.{ticks_of, start_units, end_units, scaled_up}
use Rattle.spec_time.specs.caption_stamp.Read.{mark_in, time_with, time_in}
use Rattle.spec_time.specs.caption_stamp.Write.{pad, width_under, width, text_with, time_text}
use Rattle.spec_map.specs.segment.Segment.{flat_of, segments_of, end_bad, segment_bad, any_bad, map_bad}
use Rattle.spec_caption.specs.caption_fate.Hit.{meets_parts, find_from}
use Rattle.spec_caption.specs.caption_fate.Lost.{lost_later}
use Rattle.spec_caption.specs.caption_fate.Decide.{decide_ticks, decide_of}
use Rattle.spec_caption.specs.caption_fate.Emit.{emit_by, emits_of, render, output_of, warnings_of}
use Rattle.spec_cue.specs.block_timing.Style.{blank_in, srt_end, end_in, stamps_in}
use Rattle.spec_cue.specs.block_timing.Arrow.{timing_of, after_arrow}
use Rattle.spec_cue.specs.block_cue.Block.{timing_line_says, block_says}
use Rattle.spec_machine.specs.session_counts.Counts.{count_all}
use Rattle.spec_machine.specs.session_counts.Calls.{Heard, reader_refusal}
use Rattle.promise.specs.Runs.{outcome}
use Rattle.spec_format.specs.whole.Srt.{blocks_of}
use Rattle.promise.specs.Plain.{line_fault, body_line_fault, body_fault, blocks_read, lines_say, plain_read}
use Rattle.example.specs.Worked.{plain_map, open_answer, made_calls, told_by, read_by, plain_four}
use Rattle.example.specs.Texts.{srt_first, srt_rest, srt_told}
use Rattle.example.proofs.Four.{worked}

-- the reader after the four calls: the refused piece is in its text once
abbrev heard : Heard
heard =
    record {
      numbers = 0 ∷ 16 ∷ 0 ∷ 0 ∷ [];
      reader = record { text = srt_first ++ srt_rest; finished = true; ended = true };
    }

heard_is : plain_four 1 srt_first srt_rest ≡ heard
unfolding lead_len second_low second_high tail width_by char_width utf8_from utf8 code_by code_head white_high white white_head last ends_white white_tail head_from keep_from trim_head trim_tail trim starts equals first contains up_to past pieces_from pieces digit digits value_from natural unsigned number lines_of text_of terminator_length terminator_of kind_bad units_of mark_of time_with mark_in time_in blank srt_end end_in stamps_in blank_in timing_of after_arrow timing_line_says block_says fault_unless ◌or_else◌ line_fault body_line_fault blocks_of body_fault blocks_read lines_say plain_read flat_of segments_of end_bad segment_bad any_bad map_bad reader_refusal
heard_is = refl

read_is : read_by 1 plain_map heard ≡ srt_told
unfolding lead_len second_low second_high tail width_by char_width utf8_from utf8 code_by code_head white_high white white_head last ends_white white_tail head_from keep_from trim_head trim_tail trim starts equals first contains up_to past pieces_from pieces digit digits value_from natural unsigned number lines_of text_of terminator_length terminator_of kind_bad units_of mark_of time_with mark_in time_in blank srt_end end_in stamps_in blank_in timing_of after_arrow timing_line_says block_says fault_unless ◌or_else◌ line_fault body_line_fault blocks_of body_fault blocks_read lines_say plain_read flat_of segments_of emit_by emits_of render output_of warnings_of time_text text_with pad width width_under fraction_digits hour_digits decide_of decide_ticks find_from meets_parts lost_later ticks_of start_units end_units scaled_up count_all
read_is = refl

known : kind_bad 1 ≡ false
unfolding kind_bad
known = refl

-- for any buffers of these lengths
pub srt_run : (out short places : List ℕ) → length out ≡ 32768 → length short ≡ 32767 → length places ≡ 4096
    → told_by (outcome (open_answer 1).session (made_calls 1 srt_first srt_rest out short places)) ≡ srt_told
srt_run out short places long few enough =
    worked 1 known srt_first srt_rest out short places long few enough ∙ ap (read_by 1 plain_map) heard_is ∙ read_is

-- for buffers of zeros
pub srt_zeros : told_by (outcome (open_answer 1).session (made_calls 1 srt_first srt_rest (replicate 32768 0) (replicate 32767 0) (replicate 4096 0))) ≡ srt_told
srt_zeros =
    srt_run (replicate 32768 0) (replicate 32767 0) (replicate 4096 0)
    (length-replicate {A = ℕ} 32768 0) (length-replicate {A = ℕ} 32767 0) (length-replicate {A = ℕ} 4096 0)
