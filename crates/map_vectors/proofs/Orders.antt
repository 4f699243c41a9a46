-- The order of 8, 9, 10 and 26 for snapped ranges, the longest map, and two lists: by computation.
use mathlib.Core.Path.{◌≡◌, refl}
use mathlib.Core.List.{[], ◌∷◌, map}
use Prim.Native.Nat.{◌+◌, ◌^◌}
use Rattle.spec_base.specs.base.Ascii.{ascii}
use Rattle.spec_base.specs.base.Part.{last}
use Rattle.spec_base.specs.base.Refusal.{◌or_else◌, fault_unless}
use Rattle.spec_text.specs.utf8.Utf8.{lead_len, second_low, second_high, tail, width_by, char_width, utf8_from, utf8, code_by, code_head}
use Rattle.spec_text.specs.whitespace.White.{white_high, white, white_head, ends_white, white_tail, head_from, keep_from, trim_head, trim_tail, trim}
use Rattle.spec_text.specs.text.Line.{blank}
use Rattle.spec_text.specs.pattern.Find.{starts}
use Rattle.spec_text.specs.pattern.Piece.{pieces_from, pieces}
use Rattle.spec_text.specs.text.Number.{digit, digits, value_from, natural, unsigned, number}
use Rattle.spec_trim.specs.trim.Token.{range_of, bounds_of, pair_of, closed_of, token_of, behind_end, step_of, token_number, token_range, token_end}
use Rattle.spec_trim.specs.trim.TrimList.{tokens_of, list_tokens, tokens_number, head_number, list_number}
use Rattle.spec_sheet.specs.checked_blocks.Block.{word_at}
use Rattle.spec_sheet.specs.sheet_frames.Frames.{long_of, record_word, decode_of, duration_of, ticks_from}
use Rattle.sheet_vectors.specs.Long.{still, long_with, shared}
use Rattle.spec_trim.specs.plan.Snap.{overlaps_fault}
use Rattle.spec_map.specs.segmap.Build.{range_ticks, kept_ticks, range_fault, ranges_fault, kept_number}
use Rattle.map_vectors.specs.Turned.{backward}

-- 8 is tested for all pairs first: the first range alone is 10 and the second crosses it; then the second is good, and the third crosses it
crossing_first : kept_number backward 3 (0 ∷ 2 ∷ 1 ∷ 3 ∷ []) ∷ kept_number backward 3 (0 ∷ 2 ∷ 2 ∷ 3 ∷ 2 ∷ 3 ∷ []) ∷ kept_number backward 3 (1 ∷ 0 ∷ 1 ∷ 2 ∷ 1 ∷ 2 ∷ []) ∷ [] ≡ 8 ∷ 8 ∷ 8 ∷ []
unfolding kept_number kept_ticks range_ticks ticks_from overlaps_fault ranges_fault range_fault fault_unless ◌or_else◌ backward decode_of duration_of long_of record_word word_at
crossing_first = refl

-- 9 and 10 range by range: a range that is 10 before one that is 9, and the other way round
range_by_range : kept_number backward 3 (0 ∷ 2 ∷ 3 ∷ 2 ∷ []) ∷ kept_number backward 3 (1 ∷ 0 ∷ 0 ∷ 2 ∷ []) ∷ ranges_fault backward 3 (0 ∷ 2 ∷ 2 ∷ 1 ∷ []) ∷ [] ≡ 10 ∷ 9 ∷ 10 ∷ []
unfolding kept_number kept_ticks range_ticks ticks_from overlaps_fault ranges_fault range_fault fault_unless ◌or_else◌ backward decode_of duration_of long_of record_word word_at
range_by_range = refl

-- 26 behind both: two ranges of more than 2^53 ticks together, and one that is turned over
sum_last : kept_number shared 4 (0 ∷ 2 ∷ 2 ∷ 4 ∷ 4 ∷ 3 ∷ []) ≡ 9
unfolding kept_number kept_ticks range_ticks ticks_from overlaps_fault ranges_fault range_fault fault_unless ◌or_else◌ shared decode_of duration_of long_of record_word word_at
sum_last = refl

-- a map of 2^53 ticks is good, and of one more 26
longest : kept_number (long_with 1 1 (still 0 (2 ^ 53))) 1 (0 ∷ 1 ∷ []) ∷ kept_number (long_with 1 1 (still 0 (2 ^ 53 + 1))) 1 (0 ∷ 1 ∷ []) ∷ [] ≡ 0 ∷ 26 ∷ []
unfolding kept_number kept_ticks range_ticks ticks_from overlaps_fault ranges_fault range_fault fault_unless ◌or_else◌ decode_of duration_of long_of record_word word_at
longest = refl

-- lists: 5 before 6 for one range; a minus sign is no number's
lists : map list_number (ascii "Trim(0,2)++Trim(1,4294967295)" ∷ ascii "Trim(-0,1)" ∷ ascii "Trim(0,-0)" ∷ []) ≡ 5 ∷ 3 ∷ 3 ∷ []
unfolding list_tokens list_number head_number step_of behind_end token_of closed_of pair_of bounds_of range_of token_number token_range token_end pieces pieces_from starts number unsigned natural value_from digits digit blank trim trim_tail trim_head keep_from head_from white_tail ends_white last white_head white white_high code_head code_by char_width width_by lead_len second_low second_high tail utf8 utf8_from ◌or_else◌ fault_unless tokens_of tokens_number
lists = refl
