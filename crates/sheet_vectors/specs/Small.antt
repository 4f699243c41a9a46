-- Document 01's small sheet ("Small proofs"): T 30000, n 10, decode = display, all durations 1001, sync 0, 3, 6; 30000/1001 frames a second.
use Rattle.std.specs.Prelude.{ℕ, ◌+◌, ◌-◌, ◌/◌, ◌%◌, ◌^◌, List, [], ◌∷◌, ◌++◌, length, replicate}

-- the bytes of words
abbrev pub bytes_of : List ℕ → List ℕ
bytes_of [] = []
bytes_of (w ∷ ws) = (w % 256) ∷ (w / 256 % 256) ∷ (w / 65536 % 256) ∷ (w / 16777216) ∷ bytes_of ws

abbrev pub word_sum : List ℕ → ℕ
word_sum [] = 0
word_sum (w ∷ ws) = w + word_sum ws

-- a block of the words ws, at most 127, filled up with zeros, and its check
abbrev pub checked_block : List ℕ → List ℕ
checked_block ws = bytes_of (ws ++ replicate (127 - length ws) 0 ++ (word_sum ws % 2 ^ 32) ∷ [])

-- a record: the first word, and the duration
abbrev pub sync_frame : ℕ → List ℕ
sync_frame i = (2 ^ 31 + i) ∷ 1001 ∷ []

abbrev pub frame : ℕ → List ℕ
frame i = i ∷ 1001 ∷ []

abbrev pub small_records : List ℕ
small_records = sync_frame 0 ++ frame 1 ++ frame 2 ++ sync_frame 3 ++ frame 4 ++ frame 5 ++ sync_frame 6 ++ frame 7 ++ frame 8 ++ frame 9

-- a sheet of two blocks: timescale t, frame count n, and the words of the records
abbrev pub sheet_with : ℕ → ℕ → List ℕ → List ℕ
sheet_with t n rs = checked_block (0 ∷ t ∷ n ∷ 30000 ∷ 1001 ∷ []) ++ checked_block (1 ∷ rs)

unfoldable pub small_sheet : List ℕ
small_sheet = sheet_with 30000 10 small_records
