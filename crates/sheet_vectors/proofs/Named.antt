-- Each sample named once (16, 25), on small sheets by computation: T 1, samples of 1 tick. The rows of `once_number` are of sheets without a fault; where a number
-- comes before it, or the work bytes are asked for, the whole sheet is computed.
use Prim.Native.Nat.{ℕ}
use mathlib.Core.List.{List, [], ◌∷◌, map}
use mathlib.Core.Path.{◌≡◌, refl}
use lib.ListN.{length}
use Rattle.spec_base.specs.base.Put.{put, placed}
use Rattle.spec_base.specs.base.Refusal.{◌or_else◌, fault_unless, first_of}
use Rattle.spec_sheet.specs.checked_blocks.Block.{word_at, sum_words, block_holds}
use Rattle.spec_sheet.specs.sheet_frames.Frames.{timescale_of, frames_of, record_word, decode_of, long_of, ticks_from, duration_of}
use Rattle.spec_sheet.specs.sheet_permutation.Once.{times_named, repeat_fault, work_bytes, once_number, work_once}
use Rattle.spec_sheet.specs.sheet.Sheet.{spare_fault, head_fault, record_fault, check_fault, block_fault, record_blocks, sheet_fault, sheet_number, work_after, total_fault}
use Rattle.sheet_vectors.specs.Small.{sheet_with}

-- the sheet whose frames have these decode indices
abbrev lasting : List ℕ → List ℕ
lasting [] = []
lasting (d ∷ ds) = d ∷ 1 ∷ lasting ds

abbrev named : List ℕ → List ℕ
named ds = sheet_with 1 (length ds) (lasting ds)

-- its number behind 14, where so many work bytes are lent
abbrev once : List ℕ → (lent : ℕ) → ℕ
once ds lent = once_number (named ds) (length ds) lent

-- eight frames need one work byte, nine need two
eight_frames : map (once (0 ∷ 1 ∷ 2 ∷ 3 ∷ 4 ∷ 5 ∷ 6 ∷ 7 ∷ [])) (0 ∷ 1 ∷ []) ≡ 16 ∷ 0 ∷ []
unfolding once_number work_bytes repeat_fault times_named record_word decode_of word_at first_of fault_unless ◌or_else◌ long_of
eight_frames = refl

nine_frames : map (once (0 ∷ 1 ∷ 2 ∷ 3 ∷ 4 ∷ 5 ∷ 6 ∷ 7 ∷ 8 ∷ [])) (1 ∷ 2 ∷ []) ≡ 16 ∷ 0 ∷ []
unfolding once_number work_bytes repeat_fault times_named record_word decode_of word_at first_of fault_unless ◌or_else◌ long_of
nine_frames = refl

nine_backward : sheet_number (named (8 ∷ 7 ∷ 6 ∷ 5 ∷ 4 ∷ 3 ∷ 2 ∷ 1 ∷ 0 ∷ [])) 2 ≡ 0
unfolding sheet_number once_number work_bytes repeat_fault times_named sheet_fault check_fault block_holds head_fault block_fault record_fault record_word decode_of record_blocks spare_fault timescale_of frames_of sum_words word_at first_of fault_unless ◌or_else◌ long_of total_fault ticks_from duration_of
nine_backward = refl

-- an index met before (25), however far back; too few bytes (16) before it, an index that is too large (14) before both, wherever it stands
two_zeros : map (once (0 ∷ 0 ∷ [])) (0 ∷ 1 ∷ []) ≡ 16 ∷ 25 ∷ []
unfolding once_number work_bytes repeat_fault times_named record_word decode_of word_at first_of fault_unless ◌or_else◌ long_of
two_zeros = refl

last_repeats : once (0 ∷ 1 ∷ 2 ∷ 3 ∷ 4 ∷ 5 ∷ 6 ∷ 7 ∷ 0 ∷ []) 2 ≡ 25
unfolding once_number work_bytes repeat_fault times_named record_word decode_of word_at first_of fault_unless ◌or_else◌ long_of
last_repeats = refl

all_zero_lem : map (once (0 ∷ 0 ∷ 0 ∷ 0 ∷ 0 ∷ 0 ∷ 0 ∷ 0 ∷ 0 ∷ [])) (1 ∷ 2 ∷ []) ≡ 16 ∷ 25 ∷ []
unfolding once_number work_bytes repeat_fault times_named record_word decode_of word_at first_of fault_unless ◌or_else◌ long_of
all_zero_lem = refl

last_above : sheet_number (named (0 ∷ 1 ∷ 2 ∷ 3 ∷ 4 ∷ 5 ∷ 6 ∷ 7 ∷ 9 ∷ [])) 2 ≡ 14
unfolding sheet_number once_number work_bytes repeat_fault times_named sheet_fault check_fault block_holds head_fault block_fault record_fault record_word decode_of record_blocks spare_fault timescale_of frames_of sum_words word_at first_of fault_unless ◌or_else◌ long_of total_fault ticks_from duration_of
last_above = refl

above_later : sheet_number (named (0 ∷ 0 ∷ 9 ∷ 3 ∷ 4 ∷ 5 ∷ 6 ∷ 7 ∷ 8 ∷ [])) 2 ≡ 14
unfolding sheet_number once_number work_bytes repeat_fault times_named sheet_fault check_fault block_holds head_fault block_fault record_fault record_word decode_of record_blocks spare_fault timescale_of frames_of sum_words word_at first_of fault_unless ◌or_else◌ long_of total_fault ticks_from duration_of
above_later = refl

-- the work bytes afterwards: those needed are zero with 0 and 25, and all stay where they are too few or the sheet has a fault
bytes_left : map (work_after (named (0 ∷ 1 ∷ 2 ∷ 3 ∷ 4 ∷ 5 ∷ 6 ∷ 7 ∷ 8 ∷ []))) ((255 ∷ 255 ∷ 255 ∷ 255 ∷ []) ∷ (255 ∷ []) ∷ []) ≡ (0 ∷ 0 ∷ 255 ∷ 255 ∷ []) ∷ (255 ∷ []) ∷ []
unfolding sheet_number once_number work_bytes repeat_fault times_named sheet_fault check_fault block_holds head_fault block_fault record_fault record_word decode_of record_blocks spare_fault timescale_of frames_of sum_words word_at first_of fault_unless ◌or_else◌ work_after work_once placed put long_of total_fault ticks_from duration_of
bytes_left = refl

bytes_left_25 : work_after (named (0 ∷ 0 ∷ [])) (255 ∷ 255 ∷ []) ≡ 0 ∷ 255 ∷ []
unfolding sheet_number once_number work_bytes repeat_fault times_named sheet_fault check_fault block_holds head_fault block_fault record_fault record_word decode_of record_blocks spare_fault timescale_of frames_of sum_words word_at first_of fault_unless ◌or_else◌ work_after work_once placed put long_of total_fault ticks_from duration_of
bytes_left_25 = refl

bytes_left_14 : work_after (named (0 ∷ 1 ∷ 2 ∷ 3 ∷ 4 ∷ 5 ∷ 6 ∷ 7 ∷ 9 ∷ [])) (255 ∷ 255 ∷ []) ≡ 255 ∷ 255 ∷ []
unfolding sheet_number once_number work_bytes repeat_fault times_named sheet_fault check_fault block_holds head_fault block_fault record_fault record_word decode_of record_blocks spare_fault timescale_of frames_of sum_words word_at first_of fault_unless ◌or_else◌ work_after work_once placed put long_of total_fault ticks_from duration_of
bytes_left_14 = refl
