-- Worked examples, by computation: what blocks say by their text, and what they become through the map of document 01's small proofs.
use Prim.Native.Nat.{ℕ}
use Rattle.spec_base.specs.base.Ascii.{ascii}
use Prim.Native.String.{String}
use mathlib.Core.Bool.{true, false}
use mathlib.Core.Path.{◌≡◌, refl}
use mathlib.Core.List.{List, [], ◌∷◌, ◌++◌}
use Rattle.spec_base.specs.base.Part.{last}
use Rattle.spec_text.specs.utf8.Utf8.{lead_len, second_low, second_high, tail, width_by, char_width, code_by, code_head}
use Rattle.spec_text.specs.whitespace.White.{white_high, white, white_head, ends_white, white_tail, head_from, keep_from, trim_head, trim_tail, trim}
use Rattle.spec_text.specs.pattern.Find.{starts, first, contains, up_to, past}
use Rattle.spec_text.specs.text.Number.{digit, digits, value_from, natural, unsigned, number}
use Rattle.spec_text.specs.text.Line.{lines_of, text_of, terminator_length, terminator_of}
use Rattle.spec_time.specs.caption_time.Kind.{kind_bad, units_of, mark_of, fraction_digits, hour_digits}
use Rattle.spec_time.specs.caption_time.Convert.{scaled_up, ticks_of, start_units, end_units, core_holds, ticks_within, start_within, end_within}
use Rattle.spec_time.specs.caption_stamp.Read.{mark_in, time_with, wide_by, wide_from, vtt_time, time_in}
use Rattle.spec_time.specs.caption_stamp.Write.{pad, width_under, width, text_with, time_text}
use Rattle.spec_map.specs.declared.segment.Segment.{Segment}
use Rattle.spec_map.specs.segment.Segment.{segments_of, end_bad}
use Rattle.spec_caption.specs.declared.caption_fate.Config.{Config}
use Rattle.spec_caption.specs.caption_fate.Hit.{meets_parts, find_from}
use Rattle.spec_caption.specs.caption_fate.Lost.{lost_later}
use Rattle.spec_caption.specs.caption_fate.Decide.{decide_in}
use Rattle.spec_caption.specs.caption_fate.Fates.{dropped, shifted, clipped}
use Rattle.spec_caption.specs.caption_fate.Says.{stays, cue, bad_time}
use Rattle.spec_caption.specs.caption_fate.Emit.{warning, none, decided, emit, render, emit_by}
use Rattle.spec_caption.specs.caption_fate.Told.{Answer, answered, refusal, part_in}
use Rattle.spec_cue.specs.block_timing.Style.{srt_end, vtt_end, end_in, stamp_head, stamp_in, stamps_in, style_of}
use Rattle.spec_cue.specs.block_timing.Arrow.{timing_of, after_arrow}
use Rattle.spec_cue.specs.block_cue.Block.{block_frame, block_cue, timing_line_says, block_says, BlockSays, faulty, says}
use Rattle.spec_cue.specs.block_cue.BlockThrough.{block_in}

abbrev line : String → List ℕ
line s = ascii s ++ 10 ∷ []

-- ---- by the text alone, the first line being the seventh
abbrev says_of : List ℕ → BlockSays
says_of s = block_says (style_of 1) 7 (lines_of s)

-- document 01: the end is read as 100 h and 45 ms, and the 6 is trailing
hundred_hours : says_of (ascii "00:00:00,000 --> 100:00:00,456") ≡ says (cue (block_cue 7 0 44 360000045 44 false (block_frame [] (ascii "6") [] [])))
unfolding lead_len second_low second_high tail width_by char_width code_by code_head white_high white white_head last ends_white white_tail head_from keep_from trim_head trim_tail trim starts first contains up_to past digit digits value_from natural unsigned number lines_of text_of terminator_length terminator_of kind_bad units_of mark_of time_with mark_in time_in srt_end end_in stamps_in timing_of after_arrow timing_line_says block_says
hundred_hours = refl

-- positions behind the end are trailing; the timing line is the block's second, and the lines around it stay
positions : says_of (line "12" ++ line "0:0:1,5-->00:00:02,500 X1:40 X2:600" ++ line "Hello" ++ line "--> there") ≡
    says (cue (block_cue 8 1005 44 2500 44 false (block_frame (line "12") (ascii " X1:40 X2:600") (10 ∷ []) (line "Hello" ++ line "--> there"))))
unfolding lead_len second_low second_high tail width_by char_width code_by code_head white_high white white_head last ends_white white_tail head_from keep_from trim_head trim_tail trim starts first contains up_to past digit digits value_from natural unsigned number lines_of text_of terminator_length terminator_of kind_bad units_of mark_of time_with mark_in time_in srt_end end_in stamps_in timing_of after_arrow timing_line_says block_says
positions = refl

-- fewer than 12 bytes: all of it is the end; CR LF is the terminator, and a lone CR is text
short_end : says_of (ascii "0:0:1,5 --> 0:0:2,500" ++ 13 ∷ 10 ∷ []) ≡ says (cue (block_cue 7 1005 44 2500 44 false (block_frame [] [] (13 ∷ 10 ∷ []) [])))
unfolding lead_len second_low second_high tail width_by char_width code_by code_head white_high white white_head last ends_white white_tail head_from keep_from trim_head trim_tail trim starts first contains up_to past digit digits value_from natural unsigned number lines_of text_of terminator_length terminator_of kind_bad units_of mark_of time_with mark_in time_in srt_end end_in stamps_in timing_of after_arrow timing_line_says block_says
short_end = refl

-- byte 12 splits a character (C3 A9): all of it is the end, and no time
split_character : says_of (ascii "00:00:01,500 --> 0:00:02,500" ++ 0xC3 ∷ 0xA9 ∷ 10 ∷ []) ≡ faulty bad_time
unfolding lead_len second_low second_high tail width_by char_width code_by code_head white_high white white_head last ends_white white_tail head_from keep_from trim_head trim_tail trim starts first contains up_to past digit digits value_from natural unsigned number lines_of text_of terminator_length terminator_of kind_bad units_of mark_of time_with mark_in time_in srt_end end_in stamps_in timing_of after_arrow timing_line_says block_says
split_character = refl

-- the character begins at byte 12: it is trailing
whole_character : says_of (ascii "00:00:01,500 --> 00:00:02,500" ++ 0xC3 ∷ 0xA9 ∷ 10 ∷ []) ≡ says (cue (block_cue 7 1500 44 2500 44 false (block_frame [] (0xC3 ∷ 0xA9 ∷ []) (10 ∷ []) [])))
unfolding lead_len second_low second_high tail width_by char_width code_by code_head white_high white white_head last ends_white white_tail head_from keep_from trim_head trim_tail trim starts first contains up_to past digit digits value_from natural unsigned number lines_of text_of terminator_length terminator_of kind_bad units_of mark_of time_with mark_in time_in srt_end end_in stamps_in timing_of after_arrow timing_line_says block_says
whole_character = refl

no_timing_line : says_of (line "12" ++ line "Hello -> there") ≡ says (stays (line "12" ++ line "Hello -> there"))
unfolding lead_len second_low second_high tail width_by char_width code_by code_head white_high white white_head last ends_white white_tail head_from keep_from trim_head trim_tail trim starts first contains up_to past digit digits value_from natural unsigned number lines_of text_of terminator_length terminator_of kind_bad units_of mark_of time_with mark_in time_in srt_end end_in stamps_in timing_of after_arrow timing_line_says block_says
no_timing_line = refl

-- minutes above 59 in the end
bad_end : says_of (line "00:00:00,000 --> 00:60:00,000") ≡ faulty bad_time
unfolding lead_len second_low second_high tail width_by char_width code_by code_head white_high white white_head last ends_white white_tail head_from keep_from trim_head trim_tail trim starts first contains up_to past digit digits value_from natural unsigned number lines_of text_of terminator_length terminator_of kind_bad units_of mark_of time_with mark_in time_in srt_end end_in stamps_in timing_of after_arrow timing_line_says block_says
bad_end = refl

-- ---- through the map
abbrev m : List Segment
m = segments_of (0 ∷ 3 ∷ 0 ∷ 3 ∷ 0 ∷ 3003 ∷ 6 ∷ 10 ∷ 6006 ∷ 4 ∷ 3003 ∷ 4004 ∷ [])

abbrev settings : Config
settings = record { kind = 1; timescale = 30000 }

abbrev told : List ℕ → Answer
told s = block_in settings m 7 s 1000 4

-- 210 to 250 ms through the second segment, with trailing text kept
shifts : told (line "1" ++ line "00:00:00,210 --> 00:00:00,250 X1:40" ++ line "Hi") ≡
    answered (emit (line "1" ++ line "00:00:00,109 --> 00:00:00,150 X1:40" ++ line "Hi") [] (decided (shifted 109 150)))
unfolding lead_len second_low second_high tail width_by char_width code_by code_head white_high white white_head last ends_white white_tail head_from keep_from trim_head trim_tail trim starts first contains up_to past digit digits value_from natural unsigned number lines_of text_of terminator_length terminator_of kind_bad units_of mark_of time_with mark_in time_in srt_end end_in stamps_in timing_of after_arrow timing_line_says block_says fraction_digits hour_digits scaled_up ticks_of start_units end_units core_holds ticks_within start_within end_within pad width_under width text_with time_text segments_of end_bad meets_parts find_from lost_later decide_in render emit_by part_in block_in
shifts = refl

-- each time keeps the mark that it was read with
mixed : told (line "00:00:00.210 --> 00:00:00,250") ≡ answered (emit (line "00:00:00.109 --> 00:00:00,150") [] (decided (shifted 109 150)))
unfolding lead_len second_low second_high tail width_by char_width code_by code_head white_high white white_head last ends_white white_tail head_from keep_from trim_head trim_tail trim starts first contains up_to past digit digits value_from natural unsigned number lines_of text_of terminator_length terminator_of kind_bad units_of mark_of time_with mark_in time_in srt_end end_in stamps_in timing_of after_arrow timing_line_says block_says fraction_digits hour_digits scaled_up ticks_of start_units end_units core_holds ticks_within start_within end_within pad width_under width text_with time_text segments_of end_bad meets_parts find_from lost_later decide_in render emit_by part_in block_in
mixed = refl

-- 50 to 250 ms: cut to the first segment, and a part is lost; the warning is at the timing line
clips : told (line "1" ++ line "0:0:0,50-->0:0:0,250") ≡
    answered (emit (line "1" ++ line "00:00:00,050 --> 00:00:00,101") (warning 4 8 ∷ []) (decided (clipped 50 101)))
unfolding lead_len second_low second_high tail width_by char_width code_by code_head white_high white white_head last ends_white white_tail head_from keep_from trim_head trim_tail trim starts first contains up_to past digit digits value_from natural unsigned number lines_of text_of terminator_length terminator_of kind_bad units_of mark_of time_with mark_in time_in srt_end end_in stamps_in timing_of after_arrow timing_line_says block_says fraction_digits hour_digits scaled_up ticks_of start_units end_units core_holds ticks_within start_within end_within pad width_under width text_with time_text segments_of end_bad meets_parts find_from lost_later decide_in render emit_by part_in block_in
clips = refl

-- 120 to 200 ms: between the segments
drops : told (line "00:00:00,120 --> 00:00:00,200") ≡ answered (emit [] [] (decided dropped))
unfolding lead_len second_low second_high tail width_by char_width code_by code_head white_high white white_head last ends_white white_tail head_from keep_from trim_head trim_tail trim starts first contains up_to past digit digits value_from natural unsigned number lines_of text_of terminator_length terminator_of kind_bad units_of mark_of time_with mark_in time_in srt_end end_in stamps_in timing_of after_arrow timing_line_says block_says fraction_digits hour_digits scaled_up ticks_of start_units end_units core_holds ticks_within start_within end_within pad width_under width text_with time_text segments_of end_bad meets_parts find_from lost_later decide_in render emit_by part_in block_in
drops = refl

passes_through : told (line "NOTE") ≡ answered (emit (line "NOTE") [] none)
unfolding lead_len second_low second_high tail width_by char_width code_by code_head white_high white white_head last ends_white white_tail head_from keep_from trim_head trim_tail trim starts first contains up_to past digit digits value_from natural unsigned number lines_of text_of terminator_length terminator_of kind_bad units_of mark_of time_with mark_in time_in srt_end end_in stamps_in timing_of after_arrow timing_line_says block_says fraction_digits hour_digits scaled_up ticks_of start_units end_units core_holds ticks_within start_within end_within pad width_under width text_with time_text segments_of end_bad meets_parts find_from lost_later decide_in render emit_by part_in block_in
passes_through = refl

refuses : told (line "00:60:00,000 --> 00:60:00,200") ≡ refusal 22
unfolding lead_len second_low second_high tail width_by char_width code_by code_head white_high white white_head last ends_white white_tail head_from keep_from trim_head trim_tail trim starts first contains up_to past digit digits value_from natural unsigned number lines_of text_of terminator_length terminator_of kind_bad units_of mark_of time_with mark_in time_in srt_end end_in stamps_in timing_of after_arrow timing_line_says block_says fraction_digits hour_digits scaled_up ticks_of start_units end_units core_holds ticks_within start_within end_within pad width_under width text_with time_text segments_of end_bad meets_parts find_from lost_later decide_in render emit_by part_in block_in
refuses = refl

-- ---- WebVTT: the end time stops before a space or a tab, and a time inside the cue is told
abbrev vtt_of : List ℕ → BlockSays
vtt_of s = block_says (style_of 2) 7 (lines_of s)

vtt_settings : vtt_of (line "a <1" ++ line "00:01.000-->100:00:02.000 align:start" ++ line "x <00:01.500> y") ≡
    says (cue (block_cue 8 1000 46 360002000 46 true (block_frame (line "a <1") (ascii " align:start") (10 ∷ []) (line "x <00:01.500> y"))))
unfolding lead_len second_low second_high tail width_by char_width code_by code_head white_high white white_head last ends_white white_tail head_from keep_from trim_head trim_tail trim starts first contains up_to past digit digits value_from natural unsigned number lines_of text_of terminator_length terminator_of kind_bad units_of mark_of time_with mark_in wide_by wide_from vtt_time time_in srt_end vtt_end end_in stamp_head stamp_in stamps_in timing_of after_arrow timing_line_says block_says
vtt_settings = refl

-- the lines above, the timing line and `<` apart from a digit do not count
vtt_unstamped : vtt_of (line "<1" ++ line "00:01.000 --> 00:02.000\t<2" ++ line "< 3 &lt;4" ++ line "<" ++ line "5") ≡
    says (cue (block_cue 8 1000 46 2000 46 false (block_frame (line "<1") (ascii "\t<2") (10 ∷ []) (line "< 3 &lt;4" ++ line "<" ++ line "5"))))
unfolding lead_len second_low second_high tail width_by char_width code_by code_head white_high white white_head last ends_white white_tail head_from keep_from trim_head trim_tail trim starts first contains up_to past digit digits value_from natural unsigned number lines_of text_of terminator_length terminator_of kind_bad units_of mark_of time_with mark_in wide_by wide_from vtt_time time_in srt_end vtt_end end_in stamp_head stamp_in stamps_in timing_of after_arrow timing_line_says block_says
vtt_unstamped = refl

abbrev told_vtt : List ℕ → Answer
told_vtt s = block_in (record { kind = 2; timescale = 30000 }) m 7 s 1000 4

-- 4 and then 5, at the timing line; hours are written
vtt_clips : told_vtt (line "1" ++ line "00:00.050-->00:00.250\tline:0" ++ line "<3") ≡
    answered (emit (line "1" ++ line "00:00:00.050 --> 00:00:00.101\tline:0" ++ line "<3") (warning 4 8 ∷ warning 5 8 ∷ []) (decided (clipped 50 101)))
unfolding lead_len second_low second_high tail width_by char_width code_by code_head white_high white white_head last ends_white white_tail head_from keep_from trim_head trim_tail trim starts first contains up_to past digit digits value_from natural unsigned number lines_of text_of terminator_length terminator_of kind_bad units_of mark_of time_with mark_in wide_by wide_from vtt_time time_in srt_end vtt_end end_in stamp_head stamp_in stamps_in timing_of after_arrow timing_line_says block_says fraction_digits hour_digits scaled_up ticks_of start_units end_units core_holds ticks_within start_within end_within pad width_under width text_with time_text segments_of end_bad meets_parts find_from lost_later decide_in render emit_by part_in block_in
vtt_clips = refl

vtt_shifts : told_vtt (line "00:00.210 --> 00:00.250" ++ line "<9>") ≡ answered (emit (line "00:00:00.109 --> 00:00:00.150" ++ line "<9>") (warning 5 7 ∷ []) (decided (shifted 109 150)))
unfolding lead_len second_low second_high tail width_by char_width code_by code_head white_high white white_head last ends_white white_tail head_from keep_from trim_head trim_tail trim starts first contains up_to past digit digits value_from natural unsigned number lines_of text_of terminator_length terminator_of kind_bad units_of mark_of time_with mark_in wide_by wide_from vtt_time time_in srt_end vtt_end end_in stamp_head stamp_in stamps_in timing_of after_arrow timing_line_says block_says fraction_digits hour_digits scaled_up ticks_of start_units end_units core_holds ticks_within start_within end_within pad width_under width text_with time_text segments_of end_bad meets_parts find_from lost_later decide_in render emit_by part_in block_in
vtt_shifts = refl

-- a dropped cue has no warning
vtt_drops : told_vtt (line "00:00.120 --> 00:00.200" ++ line "<1>") ≡ answered (emit [] [] (decided dropped))
unfolding lead_len second_low second_high tail width_by char_width code_by code_head white_high white white_head last ends_white white_tail head_from keep_from trim_head trim_tail trim starts first contains up_to past digit digits value_from natural unsigned number lines_of text_of terminator_length terminator_of kind_bad units_of mark_of time_with mark_in wide_by wide_from vtt_time time_in srt_end vtt_end end_in stamp_head stamp_in stamps_in timing_of after_arrow timing_line_says block_says fraction_digits hour_digits scaled_up ticks_of start_units end_units core_holds ticks_within start_within end_within pad width_under width text_with time_text segments_of end_bad meets_parts find_from lost_later decide_in render emit_by part_in block_in
vtt_drops = refl
