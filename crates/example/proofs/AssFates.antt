-- What demand 3 says of each caption of the ASS text, in plain words: 5–25 is cut to the first segment, 12–20 meets none, 21–25 moves with the second.
use Prim.Native.Nat.{ℕ}
use mathlib.Core.Path.{◌≡◌, refl, sym, ap, subst, ◌∙◌}
use mathlib.Core.List.{List}
use lib.ListN.{length}
use Rattle.spec_base.specs.base.Part.{last}
use Rattle.spec_base.specs.base.Refusal.{◌or_else◌, fault_unless}
use Rattle.spec_text.specs.utf8.Utf8.{lead_len, second_low, second_high, tail, width_by, char_width, utf8_from, utf8, code_by, code_head}
use Rattle.spec_text.specs.whitespace.White.{white_high, white, white_head, ends_white, white_tail, head_from, keep_from, trim_head, trim_tail, trim}
use Rattle.spec_text.specs.pattern.Find.{starts, equals, first, contains, up_to, past}
use Rattle.spec_text.specs.pattern.Piece.{pieces_from, pieces}
use Rattle.spec_text.specs.text.Number.{digit, digits, value_from, natural, unsigned, number}
use Rattle.spec_text.specs.text.Line.{lines_of, text_of, terminator_length, terminator_of}
use Rattle.spec_time.specs.caption_time.Kind.{kind_bad, units_of, mark_of}
use Rattle.spec_time.specs.caption_time.Convert.{ticks_of, start_units, end_units, scaled_up}
use Rattle.spec_time.specs.caption_stamp.Read.{mark_in, time_with, time_in}
use Rattle.spec_map.specs.declared.segment.Segment.{Segment}
use Rattle.spec_map.specs.segment.Segment.{flat_of, segments_of, end_bad, segment_bad, any_bad, map_bad}
use Rattle.spec_caption.specs.declared.caption_fate.Config.{Config}
use Rattle.spec_caption.specs.caption_fate.Hit.{meets_parts, find_from}
use Rattle.spec_caption.specs.caption_fate.Lost.{lost_later}
use Rattle.spec_caption.specs.caption_fate.Decide.{decide_ticks, decide_of}
use Rattle.spec_caption.specs.caption_fate.Fates.{Fate, dropped, shifted, clipped, Right}
use Rattle.spec_caption.specs.caption_fate.Says.{Cue}
use Rattle.spec_caption.specs.caption_fate.Emit.{Caption, none, decided, Emit, emit_by}
use Rattle.spec_ass.specs.ass_columns.Columns.{names_in, place_in, columns_in, fields, field_at}
use Rattle.spec_ass.specs.ass_write.Tags.{holds_any}
use Rattle.spec_ass.specs.ass_columns.Section.{bracketed, inside}
use Rattle.spec_ass.specs.ass_write.Frame.{piece_at, field_pieces}
use Rattle.spec_ass.specs.ass_line.Line.{caption_says, word_says, text_says, line_says}
use Rattle.table.specs.Example.{setting}
use Rattle.spec_machine.specs.session_counts.Calls.{reader_refusal, reading_of}
use Rattle.promise.specs.Demand.{CueRight, AllRight}
use Rattle.promise.specs.Plain.{line_fault, ass_read, lines_say, plain_read}
use Rattle.example.specs.Worked.{plain_map, plain_four}
use Rattle.example.specs.Texts.{ass_first, ass_rest, ass_parts}
use Rattle.example.proofs.Four.{fates}
use Rattle.example.proofs.AssRun.{known}

said_is : (reading_of (plain_read 0) (plain_four 0 ass_first ass_rest).reader).parts ≡ ass_parts
unfolding lead_len second_low second_high tail width_by char_width utf8_from utf8 code_by code_head white_high white white_head last ends_white white_tail head_from keep_from trim_head trim_tail trim starts equals first contains up_to past pieces_from pieces digit digits value_from natural unsigned number lines_of text_of terminator_length terminator_of kind_bad units_of mark_of time_with mark_in time_in names_in place_in columns_in fields field_at holds_any bracketed inside piece_at field_pieces caption_says word_says text_says line_says fault_unless ◌or_else◌ line_fault ass_read lines_say plain_read flat_of segments_of end_bad segment_bad any_bad map_bad reader_refusal
said_is = refl

flat_back : segments_of (flat_of plain_map.segments) ≡ plain_map.segments
unfolding flat_of segments_of
flat_back = refl

-- the fate that a cue's emit carries is the right one
abbrev fate_in_lem : Caption → Fate
fate_in_lem none = dropped
fate_in_lem (decided f) = f

right_of : (c : Config) (m : List Segment) (q : Cue) (e : Emit) → CueRight c m q e → (f : Fate) → e.caption ≡ decided f
    → Right c.timescale (units_of c.kind) m q.start q.stop f
right_of c m q e r f p =
    subst (Right c.timescale (units_of c.kind) m q.start q.stop) (ap fate_in_lem (sym r.caption ∙ p)) r.right

module _ (out short places : List ℕ) (long : length out ≡ 32768) (few : length short ≡ 32767) (enough : length places ≡ 4096) where
  pub ass_fates : AllRight (setting 0) plain_map.segments ass_parts
  ass_fates =
      subst (λ (m : List Segment). AllRight (setting 0) m ass_parts) flat_back
      (subst (AllRight (setting 0) (segments_of (flat_of plain_map.segments))) said_is (fates 0 known ass_first ass_rest out short places long few enough))

  pub first_clipped : Right 30000 (units_of 0) plain_map.segments 5 25 (clipped 5 11)
  unfolding emit_by decide_of decide_ticks find_from meets_parts lost_later ticks_of start_units end_units scaled_up units_of
  first_clipped = right_of (setting 0) plain_map.segments _ _ ass_fates.1.1.0 (clipped 5 11) refl

  pub second_dropped : Right 30000 (units_of 0) plain_map.segments 12 20 dropped
  unfolding emit_by decide_of decide_ticks find_from meets_parts lost_later ticks_of start_units end_units scaled_up units_of
  second_dropped = right_of (setting 0) plain_map.segments _ _ ass_fates.1.1.1.0 dropped refl

  pub last_shifted : Right 30000 (units_of 0) plain_map.segments 21 25 (shifted 10 15)
  unfolding emit_by decide_of decide_ticks find_from meets_parts lost_later ticks_of start_units end_units scaled_up units_of
  last_shifted = right_of (setting 0) plain_map.segments _ _ ass_fates.1.1.1.1.1.0 (shifted 10 15) refl
