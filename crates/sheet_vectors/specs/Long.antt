-- Sheets of the second layout (document 02, 2.9): word 5 of block 0 is 1, records have three words, the duration's low word first.
use Rattle.std.specs.Prelude.{ℕ, ◌+◌, ◌/◌, ◌%◌, ◌^◌, List, [], ◌∷◌, ◌++◌}
use Rattle.sheet_vectors.specs.Small.{checked_block}

-- a record: the decode index, a sync frame, and the duration
abbrev pub still : (decode duration : ℕ) → List ℕ
still d k = (2 ^ 31 + d) ∷ (k % 2 ^ 32) ∷ (k / 2 ^ 32) ∷ []

-- a sheet of two blocks: timescale t, frame count n, and the words of the records
abbrev pub long_with : ℕ → ℕ → List ℕ → List ℕ
long_with t n rs = checked_block (0 ∷ t ∷ n ∷ 30000 ∷ 1001 ∷ 1 ∷ []) ++ checked_block (1 ∷ rs)

-- two slides of 300 and 400 seconds, T 1,000,000,000
unfoldable pub slides : List ℕ
slides = long_with 1000000000 2 (still 0 300000000000 ++ still 1 400000000000)

-- four pictures whose order crosses: 2^52 and more in samples that two ranges share
unfoldable pub shared : List ℕ
shared = long_with 1 4 (still 1 5 ++ still 2 (2 ^ 52) ++ still 0 4503599627370396 ++ still 3 7)
