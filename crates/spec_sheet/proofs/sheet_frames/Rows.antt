-- The words of block 0 by a row: five words with the values 0 to 4.
use mathlib.Core.Path.{◌≡◌, refl}
use mathlib.Core.List.{List, [], ◌∷◌}
use Prim.Native.Nat.{ℕ}
use Rattle.spec_sheet.specs.checked_blocks.Block.{word_at}
use Rattle.spec_sheet.specs.sheet_frames.Frames.{timescale_of, frames_of, rate_num_of, rate_den_of}

abbrev words : List ℕ
words = 0 ∷ 0 ∷ 0 ∷ 0 ∷ 1 ∷ 0 ∷ 0 ∷ 0 ∷ 2 ∷ 0 ∷ 0 ∷ 0 ∷ 3 ∷ 0 ∷ 0 ∷ 0 ∷ 4 ∷ 0 ∷ 0 ∷ 0 ∷ []

pub head_rows : timescale_of words ∷ frames_of words ∷ rate_num_of words ∷ rate_den_of words ∷ [] ≡ 1 ∷ 2 ∷ 3 ∷ 4 ∷ []
unfolding timescale_of frames_of rate_num_of rate_den_of word_at
head_rows = refl
