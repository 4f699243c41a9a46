-- The faults of a frame sheet (document 01, "The frame sheet"; requests 2.6 and 2.9), and the answer of its check. s is the sheet's bytes.
-- Crates above name the sheet by sheet_number, and by timescale_of, frames_of, rate_num_of, rate_den_of, decode_of, sync_of and duration_of of frames.
use Rattle.std.specs.Prelude.{ℕ, zero, suc, ◌+◌, ◌-◌, ◌*◌, ◌/◌, ◌%◌, Bool, true, false, cond, List, [], ◌∷◌, length, ltb, leb, eqb, Result, Ok, Err}
use Rattle.spec_base.specs.base.Limits.{most_sheet_timescale, most_timescale, most_frames, most_ticks}
use Rattle.spec_base.specs.base.Refusal.{◌or_else◌, fault_unless, first_of}
use Rattle.spec_sheet.specs.checked_blocks.Block.{word_at, block_holds}
use Rattle.spec_sheet.specs.sheet_frames.Frames.{timescale_of, frames_of, rate_num_of, rate_den_of, long_of, per_block, record_word, decode_of, ticks_from}
use Rattle.spec_sheet.specs.sheet_permutation.Once.{once_number, work_once}
use Rattle.spec_sheet.specs.declared.sheet.Head.{Head}

-- ---- block 0

-- the fault k, unless word i is zero
unfoldable pub spare_fault : List ℕ → ℕ → ℕ → ℕ
spare_fault s k i = fault_unless (eqb (word_at s i) 0) k

-- the largest T of a layout
abbrev pub timescale_in : (long : Bool) → ℕ
timescale_in false = most_sheet_timescale
timescale_in true = most_timescale

-- head (13): word 5 is 0 or 1 and gives the layout, T and n are within their limits, and words 6 to 126 zero
unfoldable pub head_fault : List ℕ → ℕ
head_fault s =
    fault_unless (leb (word_at s 5) 1) 13 or_else
    fault_unless (ltb 0 (timescale_of s)) 13 or_else
    fault_unless (leb (timescale_of s) (timescale_in (long_of s))) 13 or_else
    fault_unless (ltb 0 (frames_of s)) 13 or_else
    fault_unless (leb (frames_of s) most_frames) 13 or_else
    first_of (spare_fault s 13) 6 121

-- ---- records, from block 1 on: 63 to a block, two words each; in the second layout 42, three words each

-- the words of a record that starts at word w and lies past n are zero (14)
abbrev pub spare_record : (long : Bool) → List ℕ → (w : ℕ) → ℕ
spare_record false s w = spare_fault s 14 w or_else spare_fault s 14 (w + 1)
spare_record true s w = spare_fault s 14 w or_else spare_fault s 14 (w + 1) or_else spare_fault s 14 (w + 2)

-- record i of n (14): its decode index is below n; past n its words are zero
unfoldable pub record_fault : List ℕ → ℕ → ℕ → ℕ
record_fault s n i =
    cond (ltb i n)
    (fault_unless (ltb (decode_of s i) n) 14)
    (spare_record (long_of s) s (record_word (long_of s) i))

-- ---- blocks

-- number and check of block b (12)
unfoldable pub check_fault : List ℕ → ℕ → ℕ
check_fault s b = fault_unless (block_holds s b) 12

-- block b, from 1 on, of n frames: number and check before records
unfoldable pub block_fault : List ℕ → ℕ → ℕ → ℕ
block_fault s n b = check_fault s b or_else first_of (record_fault s n) (per_block (long_of s) * (b - 1)) (per_block (long_of s))

-- how many blocks hold the records of n frames: n / 63 or n / 42, rounded up
unfoldable pub record_blocks : (long : Bool) → ℕ → ℕ
record_blocks false n = (n + 62) / 63
record_blocks true n = (n + 41) / 42

-- ---- the sheet

-- the first fault in its bytes (11 to 14), in document 01's order; 0 is none
unfoldable pub sheet_fault : List ℕ → ℕ
sheet_fault s =
    fault_unless (ltb 0 (length s)) 11 or_else
    fault_unless (eqb (length s % 512) 0) 11 or_else
    check_fault s 0 or_else
    head_fault s or_else
    fault_unless (eqb (length s) (512 * (1 + record_blocks (long_of s) (frames_of s)))) 11 or_else
    first_of (block_fault s (frames_of s)) 1 (record_blocks (long_of s) (frames_of s))

-- the durations of n samples together are at most 2^53 (26)
unfoldable pub total_fault : List ℕ → ℕ → ℕ
total_fault s n = fault_unless (leb (ticks_from s 0 n) most_ticks) 26

-- the number, where `lent` work bytes are lent: after 14 comes 16 where these are too few, then 25, then 26
unfoldable pub sheet_number : List ℕ → (lent : ℕ) → ℕ
sheet_number s lent =
    sheet_fault s or_else
    once_number s (frames_of s) lent or_else
    total_fault s (frames_of s)

-- the work bytes afterwards: past 14 and 16 those needed are zero, whatever the number, and any others stay
unfoldable pub work_after : List ℕ → List ℕ → List ℕ
work_after s work = cond (eqb (sheet_fault s) 0) (work_once (frames_of s) work) work

-- block 0's values
unfoldable pub head_of : List ℕ → Head
head_of s = record { timescale = timescale_of s; frames = frames_of s; rate_num = rate_num_of s; rate_den = rate_den_of s }

-- the answer: the head where there is no fault, else the fault
unfoldable pub sheet_answer : ℕ → Head → Result Head ℕ
sheet_answer zero h = Ok h
sheet_answer (suc k) h = Err (suc k)

unfoldable pub sheet_of : List ℕ → (lent : ℕ) → Result Head ℕ
sheet_of s lent = sheet_answer (sheet_number s lent) (head_of s)

-- an answer's number in document 01's table, and its values
abbrev pub number_of : Result Head ℕ → ℕ
number_of (Ok h) = 0
number_of (Err k) = k

abbrev pub values_of : Result Head ℕ → List ℕ
values_of (Ok h) = h.timescale ∷ h.frames ∷ h.rate_num ∷ h.rate_den ∷ []
values_of (Err k) = []
