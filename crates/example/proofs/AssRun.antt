-- Four calls on an ASS text, by computation: cues clipped, dropped and shifted, lines that pass with warning 2, the last cue at finish.
use Prim.Native.Nat.{ℕ}
use mathlib.Core.Path.{◌≡◌, refl, ap, ◌∙◌}
use mathlib.Core.Bool.{true, false}
use mathlib.Core.List.{List, [], ◌∷◌, ◌++◌}
use lib.ListN.{length, replicate, length-replicate}
use Rattle.spec_base.specs.base.Part.{last}
use Rattle.spec_base.specs.base.Refusal.{◌or_else◌, fault_unless}
use Rattle.spec_text.specs.utf8.Utf8.{lead_len, second_low, second_high, tail, width_by, char_width, utf8_from, utf8, code_by, code_head}
use Rattle.spec_text.specs.whitespace.White.{white_high, white, white_head, ends_white, white_tail, head_from, keep_from, trim_head, trim_tail, trim}
use Rattle.spec_text.specs.pattern.Find.{starts, equals, first, contains, up_to, past}
use Rattle.spec_text.specs.pattern.Piece.{pieces_from, pieces}
use Rattle.spec_text.specs.text.Number.{digit, digits, value_from, natural, unsigned, number}
use Rattle.spec_text.specs.text.Line.{lines_of, text_of, terminator_length, terminator_of}
use Rattle.spec_time.specs.caption_time.Kind.{kind_bad, units_of, mark_of, fraction_digits, hour_digits}
use Rattle.spec_time.specs.caption_time.Convert.{ticks_of, start_units, end_units, scaled_up}
use Rattle.spec_time.specs.caption_stamp.Read.{mark_in, time_with, time_in}
use Rattle.spec_time.specs.caption_stamp.Write.{pad, width_under, width, text_with, time_text}
use Rattle.spec_map.specs.segment.Segment.{flat_of, segments_of, end_bad, segment_bad, any_bad, map_bad}
use Rattle.spec_caption.specs.caption_fate.Hit.{meets_parts, find_from}
use Rattle.spec_caption.specs.caption_fate.Lost.{lost_later}
use Rattle.spec_caption.specs.caption_fate.Decide.{decide_ticks, decide_of}
use Rattle.spec_caption.specs.caption_fate.Emit.{emit_by, emits_of, render, output_of, warnings_of}
use Rattle.spec_ass.specs.ass_columns.Columns.{names_in, place_in, columns_in, fields, field_at}
use Rattle.spec_ass.specs.ass_write.Tags.{holds_any}
use Rattle.spec_ass.specs.ass_columns.Section.{bracketed, inside}
use Rattle.spec_ass.specs.ass_write.Frame.{piece_at, field_pieces}
use Rattle.spec_ass.specs.ass_line.Line.{caption_says, word_says, text_says, line_says}
use Rattle.spec_machine.specs.session_counts.Counts.{count_all}
use Rattle.spec_machine.specs.session_counts.Calls.{Heard, reader_refusal}
use Rattle.promise.specs.Runs.{outcome}
use Rattle.promise.specs.Plain.{line_fault, ass_read, lines_say, plain_read}
use Rattle.example.specs.Worked.{plain_map, open_answer, made_calls, told_by, read_by, plain_four}
use Rattle.example.specs.Texts.{ass_first, ass_rest, ass_told}
use Rattle.example.proofs.Four.{worked}

-- the reader after the four calls: the refused piece is in its text once
abbrev pub heard : Heard
heard =
    record {
      numbers = 0 ∷ 16 ∷ 0 ∷ 0 ∷ [];
      reader = record { text = ass_first ++ ass_rest; finished = true; ended = true };
    }

heard_is : plain_four 0 ass_first ass_rest ≡ heard
unfolding lead_len second_low second_high tail width_by char_width utf8_from utf8 code_by code_head white_high white white_head last ends_white white_tail head_from keep_from trim_head trim_tail trim starts equals first contains up_to past pieces_from pieces digit digits value_from natural unsigned number lines_of text_of terminator_length terminator_of kind_bad units_of mark_of time_with mark_in time_in names_in place_in columns_in fields field_at holds_any bracketed inside piece_at field_pieces caption_says word_says text_says line_says fault_unless ◌or_else◌ line_fault ass_read lines_say plain_read flat_of segments_of end_bad segment_bad any_bad map_bad reader_refusal
heard_is = refl

pub read_is : read_by 0 plain_map heard ≡ ass_told
unfolding lead_len second_low second_high tail width_by char_width utf8_from utf8 code_by code_head white_high white white_head last ends_white white_tail head_from keep_from trim_head trim_tail trim starts equals first contains up_to past pieces_from pieces digit digits value_from natural unsigned number lines_of text_of terminator_length terminator_of kind_bad units_of mark_of time_with mark_in time_in names_in place_in columns_in fields field_at holds_any bracketed inside piece_at field_pieces caption_says word_says text_says line_says fault_unless ◌or_else◌ line_fault ass_read lines_say plain_read flat_of segments_of emit_by emits_of render output_of warnings_of time_text text_with pad width width_under fraction_digits hour_digits decide_of decide_ticks find_from meets_parts lost_later ticks_of start_units end_units scaled_up count_all
read_is = refl

pub ass_read_lem : read_by 0 plain_map (plain_four 0 ass_first ass_rest) ≡ ass_told
ass_read_lem = ap (read_by 0 plain_map) heard_is ∙ read_is

pub known : kind_bad 0 ≡ false
unfolding kind_bad
known = refl

-- for any buffers of these lengths
pub ass_run : (out short places : List ℕ) → length out ≡ 32768 → length short ≡ 32767 → length places ≡ 4096
    → told_by (outcome (open_answer 0).session (made_calls 0 ass_first ass_rest out short places)) ≡ ass_told
ass_run out short places long few enough =
    worked 0 known ass_first ass_rest out short places long few enough ∙ ass_read_lem

-- for buffers of zeros
pub ass_zeros : told_by (outcome (open_answer 0).session (made_calls 0 ass_first ass_rest (replicate 32768 0) (replicate 32767 0) (replicate 4096 0))) ≡ ass_told
ass_zeros =
    ass_run (replicate 32768 0) (replicate 32767 0) (replicate 4096 0)
    (length-replicate {A = ℕ} 32768 0) (length-replicate {A = ℕ} 32767 0) (length-replicate {A = ℕ} 4096 0)
