-- The map of document 01's example, from the bytes of its sheet and list.
use mathlib.Core.Path.{◌≡◌, refl, ap}
use mathlib.Core.Bool.{false}
use mathlib.Core.List.{List, [], ◌∷◌}
use Prim.Native.Nat.{ℕ}
use Rattle.spec_base.specs.base.Limits.{most_work}
use Rattle.spec_base.specs.base.Refusal.{◌or_else◌, fault_unless}
use Rattle.spec_base.specs.base.Part.{last}
use Rattle.spec_text.specs.utf8.Utf8.{lead_len, second_low, second_high, tail, width_by, char_width, utf8_from, utf8, code_by, code_head}
use Rattle.spec_text.specs.whitespace.White.{white_high, white, white_head, ends_white, white_tail, head_from, keep_from, trim_head, trim_tail, trim}
use Rattle.spec_text.specs.pattern.Find.{starts}
use Rattle.spec_text.specs.pattern.Piece.{pieces_from, pieces}
use Rattle.spec_text.specs.text.Number.{digit, digits, value_from, natural, unsigned, number}
use Rattle.spec_text.specs.text.Line.{blank}
use Rattle.spec_sheet.specs.checked_blocks.Block.{word_at}
use Rattle.spec_sheet.specs.sheet_frames.Frames.{record_word, decode_of, sync_of, duration_of, long_of, ticks_from}
use Rattle.sheet_vectors.specs.Small.{small_sheet}
use Rattle.sheet_vectors.proofs.Vectors.{small_number, small_timescale, small_frames}
use Rattle.spec_trim.specs.trim.Token.{range_of, bounds_of, pair_of, closed_of, token_of, behind_end, step_of, token_number, token_range, token_end}
use Rattle.spec_trim.specs.trim.TrimList.{tokens_of, list_tokens, tokens_number, ranges_in, head_number, list_number, ranges_of}
use Rattle.spec_trim.specs.plan.Snap.{last_below, first_from, floor_sync, ceil_sync, snap_start, snap_end, snap_all, overlaps_fault}
use Rattle.spec_map.specs.segment.Segment.{segment}
use Rattle.spec_map.specs.segmap.Build.{source_start, range_ticks, range_fault, ranges_fault, segment_in, segments_in, kept_number, kept_ticks}
use Rattle.spec_map.specs.segmap.Map.{ranges_for, snapped_of, cut_number, map_number, Map, map_answer, map_of}
use Rattle.table.specs.Example.{the_list, the_map, the_segments}

list_number_lem : list_number the_list ≡ 0
unfolding list_tokens list_number head_number tokens_number tokens_of pieces pieces_from starts step_of behind_end token_of closed_of pair_of bounds_of range_of token_number token_end number natural digits digit value_from unsigned blank trim trim_tail trim_head keep_from head_from white_tail ends_white last white_head white white_high utf8 utf8_from code_head code_by char_width width_by lead_len second_low second_high tail fault_unless ◌or_else◌
list_number_lem = refl

list_ranges : ranges_of the_list ≡ 0 ∷ 3 ∷ 6 ∷ 9 ∷ []
unfolding list_tokens blank ranges_of ranges_in tokens_of pieces pieces_from starts token_of closed_of pair_of bounds_of range_of token_range number natural digits digit value_from unsigned trim trim_tail trim_head keep_from head_from white_tail ends_white last white_head white white_high code_head code_by char_width width_by lead_len second_low second_high tail
list_ranges = refl

list_told : blank the_list ≡ false
unfolding blank trim trim_tail trim_head keep_from head_from white_tail ends_white last white_head white white_high code_head code_by char_width width_by lead_len second_low second_high tail
list_told = refl

abbrev snapped : List ℕ
snapped = 0 ∷ 3 ∷ 6 ∷ 10 ∷ []

snaps : snap_all small_sheet 10 0 (0 ∷ 3 ∷ 6 ∷ 9 ∷ []) ≡ snapped
unfolding snap_all snap_start snap_end floor_sync ceil_sync last_below first_from small_sheet sync_of record_word word_at long_of
snaps = refl

snapped_is : snapped_of small_sheet the_list 0 ≡ snapped
unfolding snapped_of ranges_for
snapped_is = rw (small_frames, list_told, list_ranges) snaps

ranges_good : kept_number small_sheet 10 snapped ≡ 0
unfolding kept_number kept_ticks range_ticks ticks_from overlaps_fault ranges_fault range_fault fault_unless ◌or_else◌ small_sheet decode_of duration_of record_word word_at long_of
ranges_good = refl

segments_are : segments_in small_sheet 0 snapped ≡ segment 0 3 0 3 0 3003 ∷ segment 6 10 6006 4 3003 4004 ∷ []
unfolding segments_in segment_in source_start range_ticks ticks_from small_sheet decode_of duration_of record_word word_at long_of
segments_are = refl

number_is : map_number small_sheet the_list 0 6144 most_work ≡ 0
unfolding map_number cut_number fault_unless ◌or_else◌
number_is = rw (small_number, list_number_lem, snapped_is, small_frames, ranges_good)

-- all that `mapper` prints
pub map_is : the_map ≡ record { number = 0; timescale = 30000; count = 2; segments = segment 0 3 0 3 0 3003 ∷ segment 6 10 6006 4 3003 4004 ∷ [] }
unfolding map_of map_answer
map_is = rw (number_is, small_timescale, snapped_is, segments_are)

pub segments_is : the_segments ≡ segment 0 3 0 3 0 3003 ∷ segment 6 10 6006 4 3003 4004 ∷ []
segments_is = ap (λ (m : Map). m.segments) map_is
