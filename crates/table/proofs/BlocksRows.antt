-- The rows of blocks, over the map of document 01's example: each by computation.
use mathlib.Core.Path.{refl}
use mathlib.Core.List.{[], ◌∷◌}
use Rattle.spec_base.specs.base.Part.{last}
use Rattle.spec_text.specs.utf8.Utf8.{lead_len, second_low, second_high, tail, width_by, char_width, code_by, code_head}
use Rattle.spec_text.specs.whitespace.White.{white_high, white, white_head, ends_white, white_tail, head_from, keep_from, trim_head, trim_tail, trim}
use Rattle.spec_text.specs.pattern.Find.{starts, equals, first, contains, up_to, past}
use Rattle.spec_text.specs.text.Number.{digit, digits, value_from, natural, unsigned, number}
use Rattle.spec_text.specs.text.Line.{lines_of, text_of, terminator_length, terminator_of}
use Rattle.spec_time.specs.caption_time.Kind.{kind_bad, units_of, mark_of, fraction_digits, hour_digits}
use Rattle.spec_time.specs.caption_time.Convert.{ticks_of, start_units, end_units, scaled_up}
use Rattle.spec_time.specs.caption_stamp.Read.{mark_in, time_with, wide_by, wide_from, vtt_time, time_in}
use Rattle.spec_time.specs.caption_stamp.Write.{pad, width_under, width, text_with, time_text}
use Rattle.spec_map.specs.segment.Segment.{segment}
use Rattle.spec_caption.specs.caption_fate.Hit.{meets_parts, find_from}
use Rattle.spec_caption.specs.caption_fate.Lost.{lost_later}
use Rattle.spec_caption.specs.caption_fate.Decide.{decide_ticks, decide_of}
use Rattle.spec_caption.specs.caption_fate.Fates.{fate_of}
use Rattle.spec_caption.specs.caption_fate.Emit.{emit_by, render}
use Rattle.spec_cue.specs.block_timing.Style.{srt_end, vtt_end, end_in, stamp_head, stamp_in, stamps_in}
use Rattle.spec_cue.specs.block_timing.Arrow.{timing_of, after_arrow}
use Rattle.spec_cue.specs.block_cue.Block.{timing_line_says, block_says}
use Rattle.table.specs.Blocks.{Blocks}

pub rows : Blocks (segment 0 3 0 3 0 3003 ∷ segment 6 10 6006 4 3003 4004 ∷ [])
unfolding lead_len second_low second_high tail width_by char_width code_by code_head white_high white white_head last ends_white white_tail head_from keep_from trim_head trim_tail trim starts equals first contains up_to past digit digits value_from natural unsigned number lines_of text_of terminator_length terminator_of kind_bad units_of mark_of fraction_digits hour_digits ticks_of start_units end_units scaled_up mark_in time_with wide_by wide_from vtt_time time_in pad width_under width text_with time_text meets_parts find_from lost_later decide_ticks decide_of fate_of emit_by render srt_end vtt_end end_in stamp_head stamp_in stamps_in timing_of after_arrow timing_line_says block_says
rows =
    record {
      kinds = (refl, refl, refl, refl, refl);
      units = (refl, refl, refl);
      marks = (refl, refl, refl);
      fractions = (refl, refl, refl);
      hours = (refl, refl, refl);
      srt_unwarned = refl;
      srt_split = refl;
      srt_wide = refl;
      vtt_wide = refl;
      vtt_space = refl;
      vtt_tab = refl;
      vtt_form_feed = refl;
      vtt_comma = refl;
      vtt_warned = refl;
      lost_before = refl;
      uncut = refl;
    }
