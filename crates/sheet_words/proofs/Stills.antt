-- The second layout (13, 14, 26), on small sheets by computation.
use Prim.Native.Nat.{ℕ, ◌-◌, ◌^◌}
use mathlib.Core.Bool.{true}
use mathlib.Core.List.{List, [], ◌∷◌, ◌++◌, map}
use mathlib.Core.Path.{◌≡◌, refl}
use Rattle.spec_base.specs.base.Refusal.{◌or_else◌, fault_unless, first_of}
use Rattle.spec_sheet.specs.checked_blocks.Block.{word_at, sum_words, block_holds}
use Rattle.spec_sheet.specs.sheet_frames.Frames.{timescale_of, frames_of, long_of, record_word, decode_of, duration_of, ticks_from}
use Rattle.spec_sheet.specs.sheet_permutation.Once.{times_named, repeat_fault, work_bytes, once_number}
use Rattle.spec_sheet.specs.sheet.Sheet.{spare_fault, head_fault, record_fault, check_fault, block_fault, record_blocks, sheet_fault, total_fault, sheet_number}
use Rattle.sheet_vectors.specs.Small.{checked_block, sheet_with, small_records}
use Rattle.sheet_vectors.specs.Long.{still, long_with, slides}

abbrev check : List ℕ → ℕ
check s = sheet_number s 1

-- the low word first
durations : map (duration_of slides) (0 ∷ 1 ∷ []) ≡ 300000000000 ∷ 400000000000 ∷ []
unfolding slides duration_of long_of record_word word_at
durations = refl

-- T to 1,000,000,000 (13 above), in the first layout to 1,000,000; the small sheet with word 5 made 1 has a wrong record
timescales : map check (slides ∷ long_with 1000000001 1 (still 0 1) ∷ sheet_with 1000000000 1 (0 ∷ 1 ∷ []) ∷ []) ≡ 0 ∷ 13 ∷ 13 ∷ []
unfolding slides sheet_number once_number work_bytes repeat_fault times_named total_fault ticks_from duration_of sheet_fault check_fault block_holds head_fault block_fault record_fault long_of record_word decode_of record_blocks spare_fault timescale_of frames_of sum_words word_at first_of fault_unless ◌or_else◌
timescales = refl

small_as_long : sheet_fault (checked_block (0 ∷ 30000 ∷ 10 ∷ 30000 ∷ 1001 ∷ 1 ∷ []) ++ checked_block (1 ∷ small_records)) ≡ 14
unfolding sheet_fault check_fault block_holds head_fault block_fault record_fault long_of record_word decode_of record_blocks spare_fault timescale_of frames_of sum_words word_at first_of fault_unless ◌or_else◌
small_as_long = refl

-- 42 records to a block: 42 frames have one block of them, 43 two
blocks_of_42 : map (record_blocks true) (42 ∷ 43 ∷ 84 ∷ 85 ∷ []) ≡ 1 ∷ 2 ∷ 2 ∷ 3 ∷ []
unfolding record_blocks
blocks_of_42 = refl

-- 14: a record past n is zero in all three words
past_n : map check (long_with 1 1 (still 0 1 ++ 0 ∷ 0 ∷ 1 ∷ []) ∷ long_with 1 1 (still 0 1 ++ 0 ∷ 1 ∷ []) ∷ []) ≡ 14 ∷ 14 ∷ []
unfolding sheet_number once_number work_bytes repeat_fault times_named total_fault ticks_from duration_of sheet_fault check_fault block_holds head_fault block_fault record_fault long_of record_word decode_of record_blocks spare_fault timescale_of frames_of sum_words word_at first_of fault_unless ◌or_else◌
past_n = refl

-- 26: all durations together to 2^53; 25 comes before it
totals : map check (long_with 1 2 (still 0 (2 ^ 53 - 1) ++ still 1 1) ∷ long_with 1 2 (still 0 (2 ^ 53) ++ still 1 1) ∷ long_with 1 3 (still 0 (2 ^ 64 - 1) ++ still 1 2 ++ still 2 5) ∷ [])
    ≡ 0 ∷ 26 ∷ 26 ∷ []
unfolding sheet_number once_number work_bytes repeat_fault times_named total_fault ticks_from duration_of sheet_fault check_fault block_holds head_fault block_fault record_fault long_of record_word decode_of record_blocks spare_fault timescale_of frames_of sum_words word_at first_of fault_unless ◌or_else◌
totals = refl

repeated_first : map check (long_with 1 2 (still 0 (2 ^ 53) ++ still 0 1) ∷ []) ≡ 25 ∷ []
unfolding sheet_number once_number work_bytes repeat_fault times_named total_fault ticks_from duration_of sheet_fault check_fault block_holds head_fault block_fault record_fault long_of record_word decode_of record_blocks spare_fault timescale_of frames_of sum_words word_at first_of fault_unless ◌or_else◌
repeated_first = refl
