-- Single words of a sheet, and the order of 16 for the work bytes behind 11 to 14: by computation.
use Prim.Native.Nat.{ℕ, ◌+◌, ◌-◌, ◌^◌}
use mathlib.Core.List.{List, [], ◌∷◌, ◌++◌, map}
use mathlib.Core.Path.{◌≡◌, refl}
use lib.ListN.{set, replicate}
use Rattle.spec_base.specs.base.Refusal.{◌or_else◌, fault_unless, first_of}
use Rattle.spec_sheet.specs.checked_blocks.Block.{word_at, sum_words, block_holds}
use Rattle.spec_sheet.specs.sheet_frames.Frames.{timescale_of, frames_of, long_of, record_word, decode_of, duration_of, ticks_from}
use Rattle.spec_sheet.specs.sheet_permutation.Once.{times_named, repeat_fault, work_bytes, once_number}
use Rattle.spec_sheet.specs.sheet.Sheet.{spare_fault, head_fault, record_fault, check_fault, block_fault, record_blocks, sheet_fault, total_fault, sheet_number}
use Rattle.sheet_vectors.specs.Small.{checked_block, sync_frame, frame, sheet_with}
use Rattle.sheet_vectors.specs.Long.{long_with}

-- one frame, and a block 0 of these words
abbrev one_with : List ℕ → List ℕ
one_with ws = checked_block ws ++ checked_block (1 ∷ sync_frame 0)

-- word k of block 0, above 5, is 1, in the first layout
abbrev spare : ℕ → List ℕ
spare k = one_with (0 ∷ 30000 ∷ 1 ∷ 30000 ∷ 1001 ∷ 0 ∷ replicate (k - 6) 0 ++ 1 ∷ [])

-- 13: each of the words 6 to 126 is zero, the last too
spare_words : sheet_fault (spare 126) ∷ map head_fault (spare 6 ∷ spare 64 ∷ spare 125 ∷ spare 126 ∷ []) ≡ 13 ∷ 13 ∷ 13 ∷ 13 ∷ 13 ∷ []
unfolding sheet_fault check_fault block_holds head_fault block_fault record_fault long_of record_word decode_of record_blocks spare_fault timescale_of frames_of sum_words word_at first_of fault_unless ◌or_else◌
spare_words = refl

-- the frame rate is free: 0 of 0 is sound
free_rate : map head_fault (one_with (0 ∷ 30000 ∷ 1 ∷ 0 ∷ 0 ∷ []) ∷ one_with (0 ∷ 30000 ∷ 1 ∷ 4294967295 ∷ 0 ∷ []) ∷ []) ≡ 0 ∷ 0 ∷ []
unfolding sheet_fault check_fault block_holds head_fault block_fault record_fault long_of record_word decode_of record_blocks spare_fault timescale_of frames_of sum_words word_at first_of fault_unless ◌or_else◌
free_rate = refl

-- 14: bit 30 of a record's first word belongs to the decode index, with the sync bit and without, in both layouts
bit_30 : map sheet_fault (sheet_with 30000 1 ((2 ^ 30) ∷ 1001 ∷ []) ∷ sheet_with 30000 1 ((2 ^ 31 + 2 ^ 30) ∷ 1001 ∷ []) ∷ long_with 30000 1 ((2 ^ 30) ∷ 1001 ∷ 0 ∷ []) ∷ []) ≡ 14 ∷ 14 ∷ 14 ∷ []
unfolding sheet_fault check_fault block_holds head_fault block_fault record_fault long_of record_word decode_of record_blocks spare_fault timescale_of frames_of sum_words word_at first_of fault_unless ◌or_else◌
bit_30 = refl

-- 14: past n the first word alone, and the duration alone: in the first layout, the second is in Stills
past_n : map sheet_fault (sheet_with 30000 1 (sync_frame 0 ++ 1 ∷ []) ∷ sheet_with 30000 1 (sync_frame 0 ++ 0 ∷ 1 ∷ []) ∷ []) ≡ 14 ∷ 14 ∷ []
unfolding sheet_fault check_fault block_holds head_fault block_fault record_fault long_of record_word decode_of record_blocks spare_fault timescale_of frames_of sum_words word_at first_of fault_unless ◌or_else◌
past_n = refl

-- 16 comes behind 11 to 14: each of them, with no work byte lent; then one where nine frames need two
abbrev nine : (last : ℕ) → List ℕ
nine k = sheet_with 30000 9 (sync_frame 0 ++ frame 1 ++ frame 2 ++ frame 3 ++ frame 4 ++ frame 5 ++ frame 6 ++ frame 7 ++ frame k)

work_last : map (λ s. sheet_number s 0) ([] ∷ set (nine 8) 0 1 ∷ spare 126 ∷ sheet_with 30000 64 (sync_frame 0) ∷ set (nine 8) 516 10 ∷ nine 9 ∷ []) ≡ 11 ∷ 12 ∷ 13 ∷ 11 ∷ 12 ∷ 14 ∷ []
unfolding sheet_number once_number work_bytes repeat_fault times_named total_fault ticks_from duration_of sheet_fault check_fault block_holds head_fault block_fault record_fault long_of record_word decode_of record_blocks spare_fault timescale_of frames_of sum_words word_at first_of fault_unless ◌or_else◌
work_last = refl

two_bytes : sheet_number (nine 8) 1 ∷ sheet_number (nine 9) 1 ∷ [] ≡ 16 ∷ 14 ∷ []
unfolding sheet_number once_number work_bytes repeat_fault times_named total_fault ticks_from duration_of sheet_fault check_fault block_holds head_fault block_fault record_fault long_of record_word decode_of record_blocks spare_fault timescale_of frames_of sum_words word_at first_of fault_unless ◌or_else◌
two_bytes = refl
