-- Blocks of 512 bytes, 128 words of 32 bits each, little-endian (document 01, "The frame sheet").
-- s is a string of bytes. Word 128 * b + j is word j of block b. A missing byte counts as 0.
use Rattle.std.specs.Prelude.{ℕ, zero, suc, ◌+◌, ◌*◌, ◌%◌, ◌^◌, Bool, ◌&&◌, List, length, get_or, leb, eqb}

-- word i
unfoldable pub word_at : List ℕ → ℕ → ℕ
word_at s i =
    get_or s (4 * i) 0 + 256 * get_or s (4 * i + 1) 0 + 65536 * get_or s (4 * i + 2) 0 + 16777216 * get_or s (4 * i + 3) 0

-- the sum of k words from word i on
unfoldable pub sum_words : List ℕ → ℕ → ℕ → ℕ
sum_words s i zero = 0
sum_words s i (suc k) = sum_words s i k + word_at s (i + k)

-- block b is wholly there, word 0 is its number, and word 127 the sum of words 0 to 126, wrapping at 2^32
unfoldable pub block_holds : List ℕ → ℕ → Bool
block_holds s b =
    leb (512 * b + 512) (length s) &&
    (eqb (word_at s (128 * b)) b &&
    eqb (word_at s (128 * b + 127)) (sum_words s (128 * b) 127 % 2 ^ 32))
