-- What a frame sheet says (document 01, "The frame sheet"). s is the sheet's bytes; word j of block b is word 128 * b + j.
use Rattle.std.specs.Prelude.{ℕ, zero, suc, ◌+◌, ◌*◌, ◌/◌, ◌%◌, ◌^◌, Bool, true, false, List, leb, eqb}
use Rattle.spec_sheet.specs.checked_blocks.Block.{word_at}

-- ---- block 0

-- T, ticks a second
unfoldable pub timescale_of : List ℕ → ℕ
timescale_of s = word_at s 1

-- n, the frame count
unfoldable pub frames_of : List ℕ → ℕ
frames_of s = word_at s 2

-- the frame rate, of any value
unfoldable pub rate_num_of : List ℕ → ℕ
rate_num_of s = word_at s 3

unfoldable pub rate_den_of : List ℕ → ℕ
rate_den_of s = word_at s 4

-- the layout: word 5 is 1 where a duration has two words (other values than 0 and 1 are refused, 13, and count as 0 here)
unfoldable pub long_of : List ℕ → Bool
long_of s = eqb (word_at s 5) 1

-- ---- records, from block 1 on, from word 1 on: 63 to a block, two words each; in the long layout 42, three words each

abbrev pub per_block : (long : Bool) → ℕ
per_block false = 63
per_block true = 42

abbrev pub record_width : (long : Bool) → ℕ
record_width false = 2
record_width true = 3

-- where record i starts
unfoldable pub record_word : (long : Bool) → ℕ → ℕ
record_word false i = 128 * (1 + i / 63) + 1 + 2 * (i % 63)
record_word true i = 128 * (1 + i / 42) + 1 + 3 * (i % 42)

-- bits 0 to 30 of a record's first word: a decode index
abbrev pub decode_in : ℕ → ℕ
decode_in w = w % 2 ^ 31

-- the decode index of display frame i
abbrev pub decode_by : (long : Bool) → List ℕ → ℕ → ℕ
decode_by t s i = decode_in (word_at s (record_word t i))

unfoldable pub decode_of : List ℕ → ℕ → ℕ
decode_of s i = decode_by (long_of s) s i

-- bit 31: display frame i is a sync frame
unfoldable pub sync_of : List ℕ → ℕ → Bool
sync_of s i = leb (2 ^ 31) (word_at s (record_word (long_of s) i))

-- the words after it, one or two, the low one first: the duration in ticks of the sample with decode index i
abbrev pub duration_in : (long : Bool) → List ℕ → ℕ → ℕ
duration_in false s w = word_at s (w + 1)
duration_in true s w = word_at s (w + 1) + 2 ^ 32 * word_at s (w + 2)

unfoldable pub duration_of : List ℕ → ℕ → ℕ
duration_of s i = duration_in (long_of s) s (record_word (long_of s) i)

-- the durations of k samples together, in decode order from decode index i on
unfoldable pub ticks_from : List ℕ → ℕ → ℕ → ℕ
ticks_from s i zero = 0
ticks_from s i (suc k) = ticks_from s i k + duration_of s (i + k)
