-- The limit of a sheet's frame count, from both sides, and the order of 11 to 14: by computation.
use mathlib.Core.Path.{◌≡◌, refl}
use mathlib.Core.List.{[], ◌∷◌, ◌++◌, map}
use lib.ListN.{replicate}
use Rattle.spec_base.specs.base.Refusal.{◌or_else◌, fault_unless, first_of}
use Rattle.spec_sheet.specs.checked_blocks.Block.{word_at, sum_words, block_holds}
use Rattle.spec_sheet.specs.sheet_frames.Frames.{timescale_of, frames_of, long_of, record_word, decode_of}
use Rattle.spec_sheet.specs.sheet.Sheet.{spare_fault, head_fault, record_fault, check_fault, block_fault, record_blocks, sheet_fault}
use Rattle.sheet_vectors.specs.Small.{checked_block}

most_frames_lem : map head_fault (checked_block (0 ∷ 30000 ∷ 1048576 ∷ []) ∷ checked_block (0 ∷ 30000 ∷ 1048577 ∷ []) ∷ checked_block (0 ∷ 30000 ∷ 0 ∷ []) ∷ []) ≡ 0 ∷ 13 ∷ 13 ∷ []
unfolding head_fault spare_fault timescale_of frames_of long_of sum_words word_at first_of fault_unless ◌or_else◌
most_frames_lem = refl

-- block 0 alone, of one frame: T 0 is 13 before the full length, 11
head_first : map sheet_fault (checked_block (0 ∷ 0 ∷ 1 ∷ []) ∷ checked_block (0 ∷ 30000 ∷ 1 ∷ []) ∷ []) ≡ 13 ∷ 11 ∷ []
unfolding sheet_fault check_fault block_holds head_fault block_fault record_fault long_of record_word decode_of record_blocks spare_fault timescale_of frames_of sum_words word_at first_of fault_unless ◌or_else◌
head_first = refl

-- block by block: a record of block 1 is 14 before the number of block 2, 12
block_by_block : sheet_fault (checked_block (0 ∷ 30000 ∷ 64 ∷ []) ++ checked_block (1 ∷ 64 ∷ []) ++ replicate 512 0) ≡ 14
unfolding sheet_fault check_fault block_holds head_fault block_fault record_fault long_of record_word decode_of record_blocks spare_fault timescale_of frames_of sum_words word_at first_of fault_unless ◌or_else◌
block_by_block = refl
