-- What a blank list comes to on small sheets, by computation (document 02, 2.4): the segment of the range from 0 to n, or the refusal of that range.
use mathlib.Core.Path.{◌≡◌, refl}
use mathlib.Core.List.{[], ◌∷◌}
use Rattle.spec_base.specs.base.Part.{last}
use Rattle.spec_base.specs.base.Refusal.{◌or_else◌, fault_unless}
use Rattle.spec_text.specs.utf8.Utf8.{lead_len, second_low, second_high, tail, width_by, char_width, code_by, code_head}
use Rattle.spec_text.specs.whitespace.White.{white_high, white, white_head, ends_white, white_tail, head_from, keep_from, trim_head, trim_tail, trim}
use Rattle.spec_text.specs.text.Line.{blank}
use Rattle.spec_sheet.specs.checked_blocks.Block.{word_at}
use Rattle.spec_sheet.specs.sheet_frames.Frames.{frames_of, record_word, decode_of, sync_of, duration_of, long_of, ticks_from}
use Rattle.sheet_vectors.specs.Small.{small_sheet}
use Rattle.spec_trim.specs.plan.Snap.{last_below, first_from, floor_sync, ceil_sync, snap_start, snap_end, snap_all}
use Rattle.spec_map.specs.segment.Segment.{flat_of}
use Rattle.spec_map.specs.segmap.Build.{source_start, range_ticks, range_fault, ranges_fault, segment_in, segments_in}
use Rattle.spec_map.specs.segmap.Map.{ranges_for, snapped_of}
use Rattle.map_vectors.specs.Synced.{no_sync, sync0, sync4, reversed, reversed0, second_first, one_frame}

-- the small sheet, sync 0, 3 and 6: all of it outward, up to the last sync frame inward
whole_play : flat_of (segments_in small_sheet 0 (snapped_of small_sheet [] 0)) ≡ 0 ∷ 10 ∷ 0 ∷ 10 ∷ 0 ∷ 10010 ∷ []
unfolding frames_of snapped_of ranges_for blank trim trim_tail trim_head keep_from head_from white_tail ends_white last white_head white white_high code_head code_by char_width width_by lead_len second_low second_high tail snap_all snap_start snap_end floor_sync ceil_sync last_below first_from sync_of record_word word_at decode_of small_sheet flat_of segments_in segment_in source_start range_ticks ticks_from duration_of long_of
whole_play = refl

whole_inward : flat_of (segments_in small_sheet 0 (snapped_of small_sheet (0x20 ∷ 0x0A ∷ []) 1)) ≡ 0 ∷ 6 ∷ 0 ∷ 6 ∷ 0 ∷ 6006 ∷ []
unfolding frames_of snapped_of ranges_for blank trim trim_tail trim_head keep_from head_from white_tail ends_white last white_head white white_high code_head code_by char_width width_by lead_len second_low second_high tail snap_all snap_start snap_end floor_sync ceil_sync last_below first_from sync_of record_word word_at decode_of small_sheet flat_of segments_in segment_in source_start range_ticks ticks_from duration_of long_of
whole_inward = refl

whole_wide : flat_of (segments_in small_sheet 0 (snapped_of small_sheet (0xE3 ∷ 0x80 ∷ 0x80 ∷ 0x09 ∷ []) 0)) ≡ 0 ∷ 10 ∷ 0 ∷ 10 ∷ 0 ∷ 10010 ∷ []
unfolding frames_of snapped_of ranges_for blank trim trim_tail trim_head keep_from head_from white_tail ends_white last white_head white white_high code_head code_by char_width width_by lead_len second_low second_high tail snap_all snap_start snap_end floor_sync ceil_sync last_below first_from sync_of record_word word_at decode_of small_sheet flat_of segments_in segment_in source_start range_ticks ticks_from duration_of long_of
whole_wide = refl

-- without a sync frame: all outward, and turned over inward (9)
no_sync_outward : flat_of (segments_in no_sync 0 (snapped_of no_sync [] 0)) ≡ 0 ∷ 10 ∷ 0 ∷ 10 ∷ 0 ∷ 10010 ∷ []
unfolding frames_of snapped_of ranges_for blank trim trim_tail trim_head keep_from head_from white_tail ends_white last white_head white white_high code_head code_by char_width width_by lead_len second_low second_high tail snap_all snap_start snap_end floor_sync ceil_sync last_below first_from sync_of record_word word_at decode_of no_sync flat_of segments_in segment_in source_start range_ticks ticks_from duration_of long_of
no_sync_outward = refl

no_sync_inward : ranges_fault no_sync (frames_of no_sync) (snapped_of no_sync [] 1) ≡ 9
unfolding frames_of snapped_of ranges_for blank trim trim_tail trim_head keep_from head_from white_tail ends_white last white_head white white_high code_head code_by char_width width_by lead_len second_low second_high tail snap_all snap_start snap_end floor_sync ceil_sync last_below first_from sync_of record_word word_at decode_of no_sync ranges_fault range_fault fault_unless ◌or_else◌ long_of
no_sync_inward = refl

-- one sync frame: nothing inward, where it stands
sync_0_inward : flat_of (segments_in sync0 0 (snapped_of sync0 [] 1)) ≡ 0 ∷ 0 ∷ 0 ∷ 0 ∷ 0 ∷ 0 ∷ []
unfolding frames_of snapped_of ranges_for blank trim trim_tail trim_head keep_from head_from white_tail ends_white last white_head white white_high code_head code_by char_width width_by lead_len second_low second_high tail snap_all snap_start snap_end floor_sync ceil_sync last_below first_from sync_of record_word word_at decode_of sync0 flat_of segments_in segment_in source_start range_ticks ticks_from duration_of long_of
sync_0_inward = refl

sync_4_inward : flat_of (segments_in sync4 0 (snapped_of sync4 [] 1)) ≡ 4 ∷ 4 ∷ 4004 ∷ 0 ∷ 0 ∷ 0 ∷ []
unfolding frames_of snapped_of ranges_for blank trim trim_tail trim_head keep_from head_from white_tail ends_white last white_head white white_high code_head code_by char_width width_by lead_len second_low second_high tail snap_all snap_start snap_end floor_sync ceil_sync last_below first_from sync_of record_word word_at decode_of sync4 flat_of segments_in segment_in source_start range_ticks ticks_from duration_of long_of
sync_4_inward = refl

-- the first frame shown is not the first one decoded: past the end (10)
reversed_outward : ranges_fault reversed (frames_of reversed) (snapped_of reversed [] 0) ≡ 10
unfolding frames_of snapped_of ranges_for blank trim trim_tail trim_head keep_from head_from white_tail ends_white last white_head white white_high code_head code_by char_width width_by lead_len second_low second_high tail snap_all snap_start snap_end floor_sync ceil_sync last_below first_from sync_of record_word word_at decode_of reversed ranges_fault range_fault fault_unless ◌or_else◌ long_of
reversed_outward = refl

reversed_inward : ranges_fault reversed (frames_of reversed) (snapped_of reversed [] 1) ≡ 10
unfolding frames_of snapped_of ranges_for blank trim trim_tail trim_head keep_from head_from white_tail ends_white last white_head white white_high code_head code_by char_width width_by lead_len second_low second_high tail snap_all snap_start snap_end floor_sync ceil_sync last_below first_from sync_of record_word word_at decode_of reversed ranges_fault range_fault fault_unless ◌or_else◌ long_of
reversed_inward = refl

reversed_0_inward : flat_of (segments_in reversed0 0 (snapped_of reversed0 [] 1)) ≡ 0 ∷ 0 ∷ 9009 ∷ 0 ∷ 0 ∷ 0 ∷ []
unfolding frames_of snapped_of ranges_for blank trim trim_tail trim_head keep_from head_from white_tail ends_white last white_head white white_high code_head code_by char_width width_by lead_len second_low second_high tail snap_all snap_start snap_end floor_sync ceil_sync last_below first_from sync_of record_word word_at decode_of reversed0 flat_of segments_in segment_in source_start range_ticks ticks_from duration_of long_of
reversed_0_inward = refl

second_first_lem : ranges_fault second_first (frames_of second_first) (snapped_of second_first [] 0) ≡ 10
unfolding frames_of snapped_of ranges_for blank trim trim_tail trim_head keep_from head_from white_tail ends_white last white_head white white_high code_head code_by char_width width_by lead_len second_low second_high tail snap_all snap_start snap_end floor_sync ceil_sync last_below first_from sync_of record_word word_at decode_of second_first ranges_fault range_fault fault_unless ◌or_else◌ long_of
second_first_lem = refl

-- one frame
one_frame_outward : flat_of (segments_in one_frame 0 (snapped_of one_frame [] 0)) ≡ 0 ∷ 1 ∷ 0 ∷ 1 ∷ 0 ∷ 7 ∷ []
unfolding frames_of snapped_of ranges_for blank trim trim_tail trim_head keep_from head_from white_tail ends_white last white_head white white_high code_head code_by char_width width_by lead_len second_low second_high tail snap_all snap_start snap_end floor_sync ceil_sync last_below first_from sync_of record_word word_at decode_of one_frame flat_of segments_in segment_in source_start range_ticks ticks_from duration_of long_of
one_frame_outward = refl

one_frame_inward : flat_of (segments_in one_frame 0 (snapped_of one_frame [] 1)) ≡ 0 ∷ 0 ∷ 0 ∷ 0 ∷ 0 ∷ 0 ∷ []
unfolding frames_of snapped_of ranges_for blank trim trim_tail trim_head keep_from head_from white_tail ends_white last white_head white white_high code_head code_by char_width width_by lead_len second_low second_high tail snap_all snap_start snap_end floor_sync ceil_sync last_below first_from sync_of record_word word_at decode_of one_frame flat_of segments_in segment_in source_start range_ticks ticks_from duration_of long_of
one_frame_inward = refl
