-- What snapping and segments come to on small sheets, by computation. Document 01's own map is in the table of its examples.
use mathlib.Core.Path.{◌≡◌, refl}
use mathlib.Core.List.{[], ◌∷◌, map}
use Rattle.spec_base.specs.base.Put.{put, placed}
use Rattle.spec_base.specs.base.Refusal.{◌or_else◌, fault_unless}
use Rattle.spec_sheet.specs.checked_blocks.Block.{word_at}
use Rattle.spec_sheet.specs.sheet_frames.Frames.{frames_of, record_word, decode_of, sync_of, duration_of, long_of, ticks_from}
use Rattle.sheet_vectors.specs.Small.{small_sheet}
use Rattle.spec_trim.specs.plan.Snap.{last_below, first_from, floor_sync, ceil_sync, snap_start, snap_end, snap_all, overlaps_fault}
use Rattle.spec_map.specs.segment.Segment.{flat_of}
use Rattle.spec_map.specs.segmap.Build.{source_start, range_ticks, range_fault, ranges_fault, segment_in, segments_in}
use Rattle.spec_sheet.specs.sheet.Sheet.{sheet_fault, sheet_number, work_after, total_fault}
use Rattle.sheet_vectors.proofs.Vectors.{small_fault}
use Rattle.spec_sheet.specs.sheet_permutation.Once.{work_bytes, work_once}
use Rattle.spec_map.specs.segmap.Map.{map_number, map_work}
use Rattle.map_vectors.specs.Turned.{crossed, backward}

-- the small sheet has ten frames, sync 0, 3 and 6: the ranges of `Trim(0,2) ++ Trim(6,8)` outward and inward
outward : snap_all small_sheet 10 0 (0 ∷ 3 ∷ 6 ∷ 9 ∷ []) ≡ 0 ∷ 3 ∷ 6 ∷ 10 ∷ []
unfolding snap_all snap_start snap_end floor_sync ceil_sync last_below first_from small_sheet sync_of record_word word_at long_of
outward = refl

inward : snap_all small_sheet 10 1 (0 ∷ 3 ∷ 6 ∷ 9 ∷ []) ≡ 0 ∷ 3 ∷ 6 ∷ 6 ∷ []
unfolding snap_all snap_start snap_end floor_sync ceil_sync last_below first_from small_sheet sync_of record_word word_at long_of
inward = refl

-- ranges past the last frame
past_outward : snap_all small_sheet 10 0 (20 ∷ 30 ∷ []) ≡ 6 ∷ 10 ∷ []
unfolding snap_all snap_start snap_end floor_sync ceil_sync last_below first_from small_sheet sync_of record_word word_at long_of
past_outward = refl

past_inward : snap_all small_sheet 10 1 (20 ∷ 30 ∷ []) ≡ 10 ∷ 6 ∷ []
unfolding snap_all snap_start snap_end floor_sync ceil_sync last_below first_from small_sheet sync_of record_word word_at long_of
past_inward = refl

-- start equal to end: no frame and no duration
empty_segment : flat_of (segments_in small_sheet 0 (0 ∷ 3 ∷ 6 ∷ 6 ∷ [])) ≡ 0 ∷ 3 ∷ 0 ∷ 3 ∷ 0 ∷ 3003 ∷ 6 ∷ 6 ∷ 6006 ∷ 0 ∷ 3003 ∷ 0 ∷ []
unfolding flat_of segments_in segment_in source_start range_ticks ticks_from small_sheet decode_of duration_of record_word word_at long_of
empty_segment = refl

-- 8: frames 0 to 3 and 4 to 5 grow into one another outward; ranges that touch do not
crossing : overlaps_fault 0 (snap_all small_sheet 10 0 (0 ∷ 4 ∷ 4 ∷ 6 ∷ [])) ≡ 8
unfolding overlaps_fault fault_unless ◌or_else◌ snap_all snap_start snap_end floor_sync ceil_sync last_below first_from small_sheet sync_of record_word word_at long_of
crossing = refl

touching : overlaps_fault 0 (0 ∷ 3 ∷ 3 ∷ 6 ∷ []) ≡ 0
unfolding overlaps_fault fault_unless ◌or_else◌
touching = refl

-- 9: frame 4 alone, inward
turned_over : ranges_fault small_sheet 10 (snap_all small_sheet 10 1 (4 ∷ 5 ∷ [])) ≡ 9
unfolding ranges_fault range_fault fault_unless ◌or_else◌ snap_all snap_start snap_end floor_sync ceil_sync last_below first_from small_sheet sync_of record_word word_at decode_of long_of
turned_over = refl

-- 10: frame 1 has decode index 1, and so takes one sample or two; frame 0 has decode index 2, and takes one at most
last_sample : ranges_fault backward 3 (1 ∷ 3 ∷ []) ≡ 0
unfolding ranges_fault range_fault fault_unless ◌or_else◌ backward decode_of record_word word_at long_of
last_sample = refl

past_the_end : ranges_fault backward 3 (0 ∷ 2 ∷ []) ≡ 10
unfolding ranges_fault range_fault fault_unless ◌or_else◌ backward decode_of record_word word_at long_of
past_the_end = refl

-- source starts and durations run over decode indices: ranges 2 to 3 and 3 to 4, and the same the other way round
by_decode : flat_of (segments_in crossed 0 (2 ∷ 3 ∷ 3 ∷ 4 ∷ [])) ≡ 2 ∷ 3 ∷ 10 ∷ 1 ∷ 0 ∷ 20 ∷ 3 ∷ 4 ∷ 60 ∷ 1 ∷ 20 ∷ 40 ∷ []
unfolding flat_of segments_in segment_in source_start range_ticks ticks_from crossed decode_of duration_of record_word word_at long_of
by_decode = refl

backward_order : flat_of (segments_in backward 0 (0 ∷ 1 ∷ 1 ∷ 2 ∷ [])) ≡ 0 ∷ 1 ∷ 30 ∷ 1 ∷ 0 ∷ 30 ∷ 1 ∷ 2 ∷ 10 ∷ 1 ∷ 30 ∷ 20 ∷ []
unfolding flat_of segments_in segment_in source_start range_ticks ticks_from backward decode_of duration_of record_word word_at long_of
backward_order = refl

-- 16: one place fewer than 1,024 segments take, or a direction above 1, before the 11 of an empty sheet
map_places : map (λ lent. map_number [] [] 0 lent 0) (6143 ∷ 6144 ∷ []) ≡ 16 ∷ 11 ∷ []
unfolding map_number sheet_number sheet_fault fault_unless ◌or_else◌ total_fault ticks_from duration_of
map_places = refl

map_directions : map (λ d. map_number [] [] d 6144 0) (0 ∷ 1 ∷ 2 ∷ []) ≡ 11 ∷ 11 ∷ 16 ∷ []
unfolding map_number sheet_number sheet_fault fault_unless ◌or_else◌ total_fault ticks_from duration_of
map_directions = refl

-- the work bytes stay with that 16; else those that the ten frames of the small sheet need end zero
small_frames : frames_of small_sheet ≡ 10
unfolding frames_of word_at small_sheet
small_frames = refl

work_refused : (map_work small_sheet 0 6143 (7 ∷ 8 ∷ 9 ∷ []) ≡ 7 ∷ 8 ∷ 9 ∷ []) × (map_work small_sheet 2 6144 (7 ∷ 8 ∷ 9 ∷ []) ≡ 7 ∷ 8 ∷ 9 ∷ [])
unfolding map_work
work_refused = (refl, refl)

work_cleared : map_work small_sheet 0 6144 (7 ∷ 8 ∷ 9 ∷ []) ≡ 0 ∷ 0 ∷ 9 ∷ []
unfolding map_work work_after work_once work_bytes placed put
work_cleared = rw (small_fault, small_frames)
