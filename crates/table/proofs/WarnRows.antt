-- Warnings 3 and 4 of one caption in their order, and a tag that is none of the five: by computation.
use mathlib.Core.Path.{◌≡◌, refl}
use mathlib.Core.List.{[], ◌∷◌}
use Rattle.spec_base.specs.base.Part.{last}
use Rattle.spec_text.specs.utf8.Utf8.{lead_len, second_low, second_high, tail, width_by, char_width, code_by, code_head}
use Rattle.spec_text.specs.whitespace.White.{white_high, white, white_head, ends_white, white_tail, head_from, keep_from, trim_head, trim_tail, trim}
use Rattle.spec_text.specs.pattern.Find.{starts, equals, first, contains, up_to, past}
use Rattle.spec_text.specs.pattern.Piece.{pieces_from, pieces}
use Rattle.spec_text.specs.text.Number.{digit, digits, value_from, natural, unsigned, number}
use Rattle.spec_text.specs.text.Line.{text_of, terminator_length, terminator_of}
use Rattle.spec_time.specs.caption_time.Kind.{kind_bad, units_of, mark_of, fraction_digits, hour_digits}
use Rattle.spec_time.specs.caption_time.Convert.{ticks_of, start_units, end_units, scaled_up}
use Rattle.spec_time.specs.caption_stamp.Read.{mark_in, time_with, time_in}
use Rattle.spec_time.specs.caption_stamp.Write.{pad, width_under, width, text_with, time_text}
use Rattle.spec_map.specs.segment.Segment.{segment}
use Rattle.spec_caption.specs.caption_fate.Hit.{meets_parts, find_from}
use Rattle.spec_caption.specs.caption_fate.Lost.{lost_later}
use Rattle.spec_caption.specs.caption_fate.Decide.{decide_ticks, decide_of}
use Rattle.spec_caption.specs.caption_fate.Emit.{warning, emit_by, render}
use Rattle.spec_ass.specs.ass_columns.Columns.{names_in, place_in, columns_in, fields, field_at}
use Rattle.spec_ass.specs.ass_write.Tags.{holds_any}
use Rattle.spec_ass.specs.ass_columns.Section.{bracketed, inside}
use Rattle.spec_ass.specs.ass_write.Frame.{piece_at, field_pieces}
use Rattle.spec_ass.specs.ass_line.Line.{caption_says, word_says, text_says, line_says}
use Rattle.table.specs.Table.{lf, in_place, warns}

-- cut at both ends by 300 to 3303, with a part in 6006 to 10010
three_then_four : warns (segment 0 3 300 3 0 3003 ∷ segment 6 10 6006 4 3003 4004 ∷ []) (line_says in_place 2 (lf "Dialogue:0:0:0.00,0:0:0.25,{\\k5}c")) ≡ warning 3 3 ∷ warning 4 3 ∷ []
unfolding lead_len second_low second_high tail width_by char_width code_by code_head white_high white white_head last ends_white white_tail head_from keep_from trim_head trim_tail trim starts equals first contains up_to past pieces_from pieces digit digits value_from natural unsigned number text_of terminator_length terminator_of kind_bad units_of mark_of time_with mark_in time_in names_in place_in columns_in fields field_at holds_any bracketed inside piece_at field_pieces caption_says word_says text_says line_says emit_by render time_text text_with pad width width_under fraction_digits hour_digits decide_of decide_ticks find_from meets_parts lost_later ticks_of start_units end_units scaled_up
three_then_four = refl

-- a capital letter
capital : warns (segment 0 3 300 3 0 3003 ∷ []) (line_says in_place 2 (lf "Dialogue:0:0:0.00,0:0:0.05,{\\K5}c")) ≡ []
unfolding lead_len second_low second_high tail width_by char_width code_by code_head white_high white white_head last ends_white white_tail head_from keep_from trim_head trim_tail trim starts equals first contains up_to past pieces_from pieces digit digits value_from natural unsigned number text_of terminator_length terminator_of kind_bad units_of mark_of time_with mark_in time_in names_in place_in columns_in fields field_at holds_any bracketed inside piece_at field_pieces caption_says word_says text_says line_says emit_by render time_text text_with pad width width_under fraction_digits hour_digits decide_of decide_ticks find_from meets_parts lost_later ticks_of start_units end_units scaled_up
capital = refl
