-- 17, the order of the refusals and what open returns: by computation.
use mathlib.Core.Path.{refl}
use Rattle.spec_base.specs.base.Part.{last}
use Rattle.spec_text.specs.utf8.Utf8.{lead_len, second_low, second_high, tail, width_by, char_width, utf8_from, utf8, code_by, code_head}
use Rattle.spec_text.specs.whitespace.White.{white_high, white, white_head, ends_white, white_tail, head_from, keep_from, trim_head, trim_tail, trim}
use Rattle.spec_text.specs.text.Line.{text_of, terminator_length, blank, has_lf}
use Rattle.spec_time.specs.caption_time.Kind.{kind_bad}
use Rattle.spec_time.specs.caption_time.Convert.{timescale_bad}
use Rattle.spec_map.specs.segment.Segment.{end_bad, segment_bad, any_bad, segments_of, map_bad}
use Rattle.spec_cue.specs.block_timing.Style.{blank_in}
use Rattle.spec_machine.specs.session_counts.Session.{is_outcome, outcome_bad}
use Rattle.spec_machine.specs.kinds.Kit.{held_bad, columns_bad}
use Rattle.spec_session.specs.session_state.View.{held_of, padded, stored, foreign_of}
use Rattle.spec_session.specs.session.SessionCalls.{answer_of, open_of}
use Rattle.promise.specs.Foreign.{Foreign}

pub foreign_rows : Foreign
unfolding last lead_len second_low second_high tail width_by char_width utf8_from utf8 code_by code_head white_high white white_head ends_white white_tail head_from keep_from trim_head trim_tail trim text_of terminator_length blank has_lf kind_bad timescale_bad end_bad segment_bad any_bad segments_of map_bad blank_in is_outcome outcome_bad held_bad columns_bad held_of padded stored foreign_of answer_of open_of
foreign_rows =
    record {
      kinds = (refl, refl, refl, refl, refl);
      timescales = (refl, refl, refl, refl);
      takens = (refl, refl);
      counts = (refl, refl, refl, refl, refl);
      lines = (refl, refl);
      held = (refl, refl);
      columns = (refl, refl);
      places = (refl, refl, refl, refl, refl, refl, refl, refl);
      ass = (refl, refl, refl);
      srt = (refl, refl, refl, refl, refl, refl, refl);
      vtt = (refl, refl, refl, refl, refl, refl);
      going_on = (refl, refl, refl, refl, refl, refl, refl);
      over = (refl, refl, refl, refl, refl, refl, refl, refl, refl, refl);
      rows = (refl, refl, refl);
      order_17 = (refl, refl);
      order_18 = (refl, refl);
      order_15 = (refl, refl);
      order_16 = (refl, refl);
      opened = (refl, refl, refl, refl, refl, refl);
      refused = refl;
      fresh = refl;
    }
