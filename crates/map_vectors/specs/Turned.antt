-- Sheets whose decode order is not their display order. The second number of record i is the duration of the sample with decode index i.
use Rattle.std.specs.Prelude.{ℕ, ◌+◌, ◌^◌, List, [], ◌∷◌}
use Rattle.sheet_vectors.specs.Small.{sheet_with}

-- four frames, decoded 0, 2, 1, 3; durations 10, 20, 30, 40; sync 0 and 3
unfoldable pub crossed : List ℕ
crossed = sheet_with 1000 4 ((2 ^ 31) ∷ 10 ∷ 2 ∷ 20 ∷ 1 ∷ 30 ∷ (2 ^ 31 + 3) ∷ 40 ∷ [])

-- three frames, decoded 2, 1, 0; durations 10, 20, 30; sync 0, 1 and 2
unfoldable pub backward : List ℕ
backward = sheet_with 1000 3 ((2 ^ 31 + 2) ∷ 10 ∷ (2 ^ 31 + 1) ∷ 20 ∷ (2 ^ 31) ∷ 30 ∷ [])
