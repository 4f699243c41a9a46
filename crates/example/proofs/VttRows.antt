-- The worked WebVTT texts, by computation.
use mathlib.Core.Path.{refl}
use Rattle.spec_base.specs.base.Part.{last}
use Rattle.spec_base.specs.base.Refusal.{◌or_else◌, fault_unless}
use Rattle.spec_text.specs.utf8.Utf8.{lead_len, second_low, second_high, tail, width_by, char_width, utf8_from, utf8, code_by, code_head}
use Rattle.spec_text.specs.whitespace.White.{white_high, white, white_head, ends_white, white_tail, head_from, keep_from, trim_head, trim_tail, trim}
use Rattle.spec_text.specs.pattern.Find.{starts, equals, first, contains, up_to, past}
use Rattle.spec_text.specs.pattern.Piece.{pieces_from, pieces}
use Rattle.spec_text.specs.text.Number.{digit, digits, value_from, natural, unsigned, number}
use Rattle.spec_text.specs.text.Line.{lines_of, text_of, terminator_length, terminator_of, blank}
use Rattle.spec_time.specs.caption_time.Kind.{kind_bad, units_of, mark_of, fraction_digits, hour_digits}
use Rattle.spec_time.specs.caption_time.Convert.{ticks_of, start_units, end_units, scaled_up}
use Rattle.spec_time.specs.caption_stamp.Read.{time_with, wide_by, wide_from, vtt_time, time_in}
use Rattle.spec_time.specs.caption_stamp.Write.{pad, width_under, width, text_with, time_text}
use Rattle.spec_map.specs.segment.Segment.{flat_of, segments_of}
use Rattle.spec_caption.specs.caption_fate.Hit.{meets_parts, find_from}
use Rattle.spec_caption.specs.caption_fate.Lost.{lost_later}
use Rattle.spec_caption.specs.caption_fate.Decide.{decide_ticks, decide_of}
use Rattle.spec_caption.specs.caption_fate.Emit.{emit_by, emits_of, render, output_of, warnings_of}
use Rattle.spec_cue.specs.block_timing.Style.{blank_in, vtt_end, end_in, stamp_head, stamp_in, stamps_in}
use Rattle.spec_cue.specs.block_timing.Arrow.{timing_of, after_arrow}
use Rattle.spec_cue.specs.block_cue.Block.{timing_line_says, block_says}
use Rattle.spec_machine.specs.session_counts.Counts.{count_all}
use Rattle.spec_format.specs.whole.Srt.{blocks_of}
use Rattle.promise.specs.Plain.{line_fault, body_line_fault, body_fault, blocks_read, headed, head_fault, vtt_read, lines_say, plain_read}
use Rattle.example.specs.VttRows.{Rows}

pub rows : Rows
unfolding lead_len second_low second_high tail width_by char_width utf8_from utf8 code_by code_head white_high white white_head last ends_white white_tail head_from keep_from trim_head trim_tail trim starts equals first contains up_to past pieces_from pieces digit digits value_from natural unsigned number lines_of text_of terminator_length terminator_of kind_bad units_of mark_of time_with wide_by wide_from vtt_time time_in blank vtt_end end_in stamp_head stamp_in stamps_in blank_in timing_of after_arrow timing_line_says block_says fault_unless ◌or_else◌ line_fault body_line_fault blocks_of body_fault blocks_read headed head_fault vtt_read lines_say plain_read flat_of segments_of emit_by emits_of render output_of warnings_of time_text text_with pad width width_under fraction_digits hour_digits decide_of decide_ticks find_from meets_parts lost_later ticks_of start_units end_units scaled_up count_all
rows =
    record {
      empty_text = refl;
      bom_alone = refl;
      part_of_a_bom_is_a = refl;
      header_alone_no_terminator = refl;
      bom_and_header = refl;
      header_goes_on_with_a_tab = refl;
      header_goes_on_with_a_space = refl;
      header_goes_on_with_another_byte = refl;
      lone_cr_behind_the_word_is = refl;
      cr_at_the_end_of_the = refl;
      cr_cr_lf_the_first_cr = refl;
      small_letters = refl;
      empty_first_line = refl;
      bom_is_not_written_back_with = refl;
      two_boms = refl;
      n_20_before_24 = refl;
      no_blank_line_behind_the_header = refl;
      a_line_of_a_space_is = refl;
      cr_lf_is_blank_cr_cr = refl;
      a_last_cr_is_a_line = refl;
      dropped_keeps_the_blank_lines = refl;
      no_hours_hours_of_two_and = refl;
      hours_of_one_digit = refl;
      plus_sign = refl;
      comma = refl;
      fraction_of_two_digits = refl;
      fraction_of_four_digits = refl;
      minutes_of_one_digit = refl;
      minutes_above_59 = refl;
      seconds_above_59 = refl;
      hours_9999_are_read = refl;
      hours_10000 = refl;
      three_colons = refl;
      no_end = refl;
      trimmed_by_whitespace = refl;
      settings_are_kept_with_their_space = refl;
      settings_behind_a_tab = refl;
      end_stops_at_a_space_or = refl;
      cr_behind_the_end_belongs_to = refl;
      cr_behind_a_space_is_kept = refl;
      no_spaces_about_the_arrow = refl;
      an_identifier_with_an_arrow_is = refl;
      a_second_arrow_below_stays = refl;
      note_style_region_and_bare_identifiers = refl;
      n_4_then_5_at_the_timing = refl;
      n_5_for_a_shifted_cue = refl;
      no_5_for_a_dropped_cue = refl;
      no_5_on_or_above_the = refl;
      no_5_over_a_lines_end = refl;
      no_5_for_a_digit_that = refl;
      n_5_in_the_second_line_below = refl;
      n_22_leaves_its_block_out_and = refl;
      n_20_in_a_block_leaves_the = refl;
      n_20_of_the_blank_lines_follower = refl;
      before_a_finish_nothing_yet = refl;
      before_a_finish_bom_alone = refl;
      before_a_finish_a_rest_that = refl;
      before_a_finish_nor_one_that = refl;
      before_a_finish_an_open_block = refl;
    }
