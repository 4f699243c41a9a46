-- Sheets for blank lists (document 02, 2.4): ten frames of 1001 ticks, timescale 30000, as document 01's small sheet, with other sync frames or another decode order.
use Rattle.std.specs.Prelude.{ℕ, ◌+◌, ◌^◌, List, [], ◌∷◌}
use Rattle.sheet_vectors.specs.Small.{sheet_with}

-- the first words of the records, each with its duration
abbrev lasting : List ℕ → List ℕ
lasting [] = []
lasting (w ∷ ws) = w ∷ 1001 ∷ lasting ws

abbrev ten_frames : List ℕ → List ℕ
ten_frames ws = sheet_with 30000 10 (lasting ws)

abbrev sync : ℕ
sync = 2 ^ 31

unfoldable pub no_sync : List ℕ
no_sync = ten_frames (0 ∷ 1 ∷ 2 ∷ 3 ∷ 4 ∷ 5 ∷ 6 ∷ 7 ∷ 8 ∷ 9 ∷ [])

unfoldable pub sync0 : List ℕ
sync0 = ten_frames ((sync + 0) ∷ 1 ∷ 2 ∷ 3 ∷ 4 ∷ 5 ∷ 6 ∷ 7 ∷ 8 ∷ 9 ∷ [])

unfoldable pub sync4 : List ℕ
sync4 = ten_frames (0 ∷ 1 ∷ 2 ∷ 3 ∷ (sync + 4) ∷ 5 ∷ 6 ∷ 7 ∷ 8 ∷ 9 ∷ [])

-- decoded from the last to the first: sync frames 0, 3 and 6, and frame 0 alone
unfoldable pub reversed : List ℕ
reversed = ten_frames ((sync + 9) ∷ 8 ∷ 7 ∷ (sync + 6) ∷ 5 ∷ 4 ∷ (sync + 3) ∷ 2 ∷ 1 ∷ 0 ∷ [])

unfoldable pub reversed0 : List ℕ
reversed0 = ten_frames ((sync + 9) ∷ 8 ∷ 7 ∷ 6 ∷ 5 ∷ 4 ∷ 3 ∷ 2 ∷ 1 ∷ 0 ∷ [])

-- the second frame shown is the first one decoded
unfoldable pub second_first : List ℕ
second_first = ten_frames ((sync + 1) ∷ 0 ∷ 2 ∷ (sync + 3) ∷ 4 ∷ 5 ∷ (sync + 6) ∷ 7 ∷ 8 ∷ 9 ∷ [])

-- one frame of 7 ticks, timescale 1
unfoldable pub one_frame : List ℕ
one_frame = sheet_with 1 1 (sync ∷ 7 ∷ [])
