-- How many blocks bytes take, and how much of a row is written and read: by computation.
use mathlib.Core.Path.{◌≡◌, refl}
use mathlib.Core.Bool.{true, false}
use mathlib.Core.List.{[], ◌∷◌, ◌++◌}
use lib.ListN.{length, replicate, take, drop}
use Rattle.spec_sheet.specs.checked_blocks.Block.{word_at, sum_words, block_holds}
use Rattle.spec_parked_blocks.specs.parked_blocks.Sealed.{word_bytes, sealed, sealed_all, bodies, all_hold, all_zero, is_row}
use Rattle.spec_parked_blocks.specs.parked_blocks.First.{blocks_for, first_blocks, first_in, blank_all, short_row, unsealed_first}

-- none, a part of one, one, one byte more; the last block; more than there are
taken : blocks_for 0 ∷ blocks_for 1 ∷ blocks_for 504 ∷ blocks_for 505 ∷ blocks_for 8064 ∷ blocks_for 8065 ∷ blocks_for 8568 ∷ blocks_for 8569 ∷ blocks_for 4294967295 ∷ []
    ≡ 0 ∷ 1 ∷ 1 ∷ 2 ∷ 16 ∷ 17 ∷ 17 ∷ 17 ∷ 17 ∷ []
unfolding blocks_for
taken = refl

-- block 0 alone, with one block, with two; nothing where 18 blocks or the head have no place
written : length (first_in 9216 0 [] []) ∷ length (first_in 9216 1 [] []) ∷ length (first_in 9216 505 [] []) ∷ length (first_in 9215 505 [] []) ∷ length (first_in 9216 0 (replicate 505 0) []) ∷ []
    ≡ 512 ∷ 1024 ∷ 1536 ∷ 0 ∷ 0 ∷ []
unfolding first_in first_blocks blocks_for sealed sealed_all word_bytes sum_words word_at
written = refl

-- one held byte: the second block has it behind its number
first_byte : take 5 (drop 512 (first_blocks 1 [] (7 ∷ []))) ≡ 1 ∷ 0 ∷ 0 ∷ 0 ∷ 7 ∷ []
unfolding first_blocks sealed sealed_all word_bytes sum_words word_at
first_byte = refl

-- block 1 alone: blank with the sum 1, not with a byte that is not zero, and not with another sum
blank : blank_all (replicate 512 0 ++ 1 ∷ replicate 507 0 ++ 1 ∷ 0 ∷ 0 ∷ 0 ∷ []) 1 1 ∷ blank_all (replicate 512 0 ++ 1 ∷ 0 ∷ 0 ∷ 0 ∷ 1 ∷ replicate 503 0 ++ 2 ∷ 0 ∷ 0 ∷ 0 ∷ []) 1 1
    ∷ blank_all (replicate 512 0 ++ 1 ∷ replicate 507 0 ++ 2 ∷ 0 ∷ 0 ∷ 0 ∷ []) 1 1 ∷ []
    ≡ true ∷ false ∷ false ∷ []
unfolding blank_all all_hold bodies all_zero block_holds sum_words word_at
blank = refl

-- no row
none : unsealed_first [] 0 8568 ∷ short_row [] 17 ∷ [] ≡ false ∷ false ∷ []
unfolding unsealed_first short_row is_row all_hold block_holds bodies all_zero blocks_for
none = refl
