-- The rows of document 01's table, over the map of its example: each by computation.
use mathlib.Core.Path.{refl}
use mathlib.Core.List.{[], ◌∷◌}
use Rattle.table.proofs.Past.{strange_told, limit_told}
use Rattle.spec_base.specs.base.Part.{last}
use Rattle.spec_text.specs.utf8.Utf8.{lead_len, second_low, second_high, tail, width_by, char_width, code_by, code_head}
use Rattle.spec_text.specs.whitespace.White.{white_high, white, white_head, ends_white, white_tail, head_from, keep_from, trim_head, trim_tail, trim}
use Rattle.spec_text.specs.pattern.Find.{starts, equals, first, contains, up_to, past}
use Rattle.spec_text.specs.pattern.Piece.{pieces_from, pieces}
use Rattle.spec_text.specs.text.Number.{digit, digits, value_from, natural, unsigned, number}
use Rattle.spec_text.specs.text.Line.{lines_of, text_of, terminator_length, terminator_of}
use Rattle.spec_time.specs.caption_time.Kind.{kind_bad, units_of, mark_of, fraction_digits, hour_digits}
use Rattle.spec_time.specs.caption_time.Convert.{ticks_of, start_units, end_units, scaled_up}
use Rattle.spec_time.specs.caption_stamp.Read.{mark_in, time_with, time_in}
use Rattle.spec_time.specs.caption_stamp.Write.{pad, width_under, width, text_with, time_text}
use Rattle.spec_map.specs.segment.Segment.{segment}
use Rattle.spec_caption.specs.caption_fate.Hit.{meets_parts, find_from}
use Rattle.spec_caption.specs.caption_fate.Lost.{lost_later}
use Rattle.spec_caption.specs.caption_fate.Decide.{decide_ticks, decide_of}
use Rattle.spec_caption.specs.caption_fate.Fates.{fate_of}
use Rattle.spec_caption.specs.caption_fate.Emit.{emit_by, render}
use Rattle.spec_ass.specs.ass_columns.Columns.{names_in, place_in, columns_in, fields, field_at}
use Rattle.spec_ass.specs.ass_write.Tags.{holds_any}
use Rattle.spec_ass.specs.ass_columns.Section.{bracketed, inside}
use Rattle.spec_ass.specs.ass_write.Frame.{piece_at, field_pieces}
use Rattle.spec_ass.specs.ass_line.Line.{caption_says, word_says, text_says, line_says}
use Rattle.spec_cue.specs.block_timing.Style.{srt_end, end_in, stamps_in}
use Rattle.spec_cue.specs.block_timing.Arrow.{timing_of, after_arrow}
use Rattle.spec_cue.specs.block_cue.Block.{timing_line_says, block_says}
use Rattle.table.specs.Table.{Table}

pub rows : Table (segment 0 3 0 3 0 3003 ∷ segment 6 10 6006 4 3003 4004 ∷ [])
unfolding lead_len second_low second_high tail width_by char_width code_by code_head white_high white white_head last ends_white white_tail head_from keep_from trim_head trim_tail trim starts equals first contains up_to past pieces_from pieces digit digits value_from natural unsigned number lines_of text_of terminator_length terminator_of kind_bad units_of mark_of time_with mark_in time_in names_in place_in columns_in fields field_at holds_any bracketed inside piece_at field_pieces caption_says word_says text_says line_says emit_by render time_text text_with pad width width_under fraction_digits hour_digits fate_of decide_of decide_ticks find_from meets_parts lost_later ticks_of start_units end_units scaled_up srt_end end_in stamps_in timing_of after_arrow timing_line_says block_says
rows =
    record {
      across = refl;
      across_lost = refl;
      across_warned = refl;
      across_empty = refl;
      before_unwarned = refl;
      between = refl;
      second = refl;
      second_edge = refl;
      zero_length = refl;
      instant = refl;
      turned = refl;
      hit_first = refl;
      hit_second = refl;
      hit_none = refl;
      decision_kept = refl;
      decision_dropped = refl;
      decision_strange = strange_told;
      decision_limit = limit_told;
      sixty_minutes = refl;
      sixty_units = refl;
      sixty_mark = refl;
      last_hundredth = refl;
      last_number = refl;
      last_units = refl;
      last_mark = refl;
      srt_end = refl;
      dialogue = refl;
      section = refl;
      wide_space = refl;
      empty_section = refl;
      one_byte = refl;
      other_section = refl;
      space_before = refl;
      space_behind = refl;
      spaces_about = refl;
      two_brackets = refl;
      lone_cr = refl;
      format = refl;
      first_columns = refl;
      first_end = refl;
      format_inside = refl;
      format_outside = refl;
      format_anew = refl;
      columns_stay = refl;
      columns_back = refl;
      unplaced_line = refl;
      unplaced_end = refl;
      unplaced_start = refl;
      short_line = refl;
      cue_line = refl;
      commas = refl;
      other_line = refl;
      tag_warned = refl;
      tag_move = refl;
      tag_t = refl;
      tag_fad = refl;
      tag_fade = refl;
      no_tag = refl;
      tag_elsewhere = refl;
      tag_uncut = refl;
      bad_time = refl;
      dropped_line = refl;
    }
