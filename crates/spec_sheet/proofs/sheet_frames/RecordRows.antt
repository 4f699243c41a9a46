-- Where records stand, in both layouts: the first of block 1, its last, and the first of block 2.
use mathlib.Core.Path.{◌≡◌, refl}
use mathlib.Core.Bool.{true, false}
use mathlib.Core.List.{[], ◌∷◌, map}
use Rattle.spec_sheet.specs.sheet_frames.Frames.{per_block, record_width, record_word}

pub record_rows : (map (record_word false) (0 ∷ 62 ∷ 63 ∷ []) ≡ 129 ∷ 253 ∷ 257 ∷ []) × (map (record_word true) (0 ∷ 41 ∷ 42 ∷ []) ≡ 129 ∷ 252 ∷ 257 ∷ [])
unfolding record_word
record_rows = (refl, refl)

-- records to a block, and words to a record
pub block_rows : (map per_block (false ∷ true ∷ []) ≡ 63 ∷ 42 ∷ []) × (map record_width (false ∷ true ∷ []) ≡ 2 ∷ 3 ∷ [])
block_rows = (refl, refl)
