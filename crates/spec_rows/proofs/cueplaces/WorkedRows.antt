-- The worked rows, by computation.
use mathlib.Core.Path.{◌≡◌, refl}
use mathlib.Core.Bool.{Bool, true, false, not}
use Prim.Native.Nat.{◌*◌}
use native.Mathlib.Omega.{arith}
use borrow.Author.Tests.{lt-leb}
use lib.Dec.{leb}
use lib.ListN.{length}
use Rattle.spec_base.specs.base.Limits.{most_taken}
use Rattle.spec_base.specs.base.Part.{last}
use Rattle.spec_base.specs.base.Refusal.{◌or_else◌, fault_unless}
use Rattle.spec_text.specs.utf8.Utf8.{lead_len, second_low, second_high, tail, width_by, char_width, utf8_from, utf8, code_by, code_head}
use Rattle.spec_text.specs.whitespace.White.{white_high, white, white_head, ends_white, white_tail, head_from, keep_from, trim_head, trim_tail, trim}
use Rattle.spec_text.specs.pattern.Find.{starts, equals, first, contains, up_to, past}
use Rattle.spec_text.specs.pattern.Piece.{pieces_from, pieces}
use Rattle.spec_text.specs.text.Number.{digit, digits, value_from, natural, unsigned, number}
use Rattle.spec_text.specs.text.Line.{lines_of, text_of, terminator_length, terminator_of, blank}
use Rattle.spec_time.specs.caption_time.Kind.{kind_bad, units_of, mark_of}
use Rattle.spec_time.specs.caption_stamp.Read.{mark_in, time_with, wide_by, wide_from, vtt_time, time_in}
use Rattle.spec_caption.specs.caption_fate.Says.{captions_in}
use Rattle.spec_ass.specs.ass_columns.Columns.{names_in, place_in, columns_in, fields, field_at}
use Rattle.spec_ass.specs.ass_columns.Section.{bracketed, inside}
use Rattle.spec_ass.specs.ass_write.Tags.{holds_any}
use Rattle.spec_ass.specs.ass_write.Frame.{piece_at, field_pieces}
use Rattle.spec_ass.specs.ass_line.Line.{caption_says, word_says, text_says, line_says}
use Rattle.spec_cue.specs.block_timing.Style.{blank_in, srt_end, vtt_end, end_in, stamp_head, stamp_in, stamps_in}
use Rattle.spec_cue.specs.block_timing.Arrow.{timing_of, after_arrow}
use Rattle.spec_cue.specs.block_cue.Block.{timing_line_says, block_says}
use Rattle.spec_format.specs.whole.Srt.{blocks_of}
use Rattle.promise.specs.Plain.{line_fault, body_line_fault, ass_read, body_fault, blocks_read, headed, head_fault, vtt_read, lines_say, plain_read}
use Rattle.spec_rows.specs.caption_rows.Said.{words_length, block_said}
use Rattle.spec_rows.specs.caption_rows.Walk.{ass_turn, ass_next, ass_walk, block_turn, block_walk, head_turn, vtt_walk, walk_behind, walk_of}
use Rattle.spec_rows.specs.caption_rows.Cues.{words_at, cues_refused, cues_number, cues_told}
use Rattle.spec_rows.specs.cueplaces.Worked.{Worked, TextNext}

pub worked_rows : Worked
unfolding lead_len second_low second_high tail width_by char_width utf8_from utf8 code_by code_head white_high white white_head last ends_white white_tail head_from keep_from trim_head trim_tail trim starts equals first contains up_to past pieces_from pieces digit digits value_from natural unsigned number lines_of text_of terminator_length terminator_of blank kind_bad units_of mark_of time_with mark_in wide_by wide_from vtt_time time_in srt_end vtt_end end_in stamp_head stamp_in stamps_in blank_in timing_of after_arrow timing_line_says block_says names_in place_in columns_in fields field_at holds_any bracketed inside piece_at field_pieces caption_says word_says text_says line_says fault_unless ◌or_else◌ line_fault body_line_fault ass_read blocks_of body_fault blocks_read headed head_fault vtt_read lines_say plain_read captions_in words_length block_said ass_turn ass_next ass_walk block_turn block_walk head_turn vtt_walk walk_behind walk_of words_at cues_refused cues_number cues_told
worked_rows =
    record {
      ass = refl;
      srt = refl;
      vtt = refl;
      told = refl;
      places_enough = refl;
      places_few = refl;
      told_few = refl;
      kind_last = refl;
      kind_next = refl;
      line_22 = refl;
      told_22 = refl;
      rows_22 = refl;
      few_22 = refl;
      block_22 = refl;
      line_20 = refl;
      told_20 = refl;
      line_24 = refl;
      told_24 = refl;
      none_24 = refl;
      told_none = refl;
    }

pub text_next : TextNext
unfolding cues_number cues_refused fault_unless ◌or_else◌
text_next kind lent told text h = rw (lt-leb (length text) most_taken (omega arith)) (go (kind_bad kind))
  where
    go : (b : Bool)
        → ((fault_unless (not b) 16 or_else 16 or_else fault_unless (leb 2 told) 16 or_else fault_unless (leb (6 * captions_in (plain_read kind true text).parts) lent) 16) or_else (plain_read kind true text).fault) ≡ 16
    go true = refl
    go false = refl
