-- Rows of 18 blocks of 512 bytes. Each block has its number, 504 bytes of its own, and its sum, as a block of the frame sheet has (spec_sheet/specs/checked_blocks/Block).
-- The bytes of blocks 1 to 17 together are the room.
use Rattle.std.specs.Prelude.{Bool, true, ◌&&◌, cond, List, [], ◌∷◌, ◌++◌, ℕ, zero, suc, ◌+◌, ◌-◌, ◌*◌, ◌/◌, ◌%◌, ◌^◌, eqb, leb, length, take, drop, replicate}
use Rattle.spec_sheet.specs.checked_blocks.Block.{sum_words, block_holds}

-- 18 blocks; the bytes of a block that are its own; those of blocks 1 to 17 together
abbrev pub sealed_length : ℕ
sealed_length = 9216

abbrev pub body_length : ℕ
body_length = 504

abbrev pub room_length : ℕ
room_length = 8568

-- ---- as they are written
-- a word as four bytes, little-endian
unfoldable pub word_bytes : ℕ → List ℕ
word_bytes w = w % 256 ∷ w / 256 % 256 ∷ w / 256 / 256 % 256 ∷ w / 256 / 256 / 256 % 256 ∷ []

unfoldable pub words_bytes : List ℕ → List ℕ
words_bytes [] = []
words_bytes (w ∷ ws) = word_bytes w ++ words_bytes ws

-- block b with these 504 bytes
unfoldable pub sealed : (b : ℕ) → (body : List ℕ) → List ℕ
sealed b body = word_bytes b ++ body ++ word_bytes (sum_words (word_bytes b ++ body) 0 127 % 2 ^ 32)

-- n blocks from block b on, with the bytes of l, 504 to a block
unfoldable pub sealed_all : (b n : ℕ) → List ℕ → List ℕ
sealed_all b zero l = []
sealed_all b (suc n) l = sealed b (take body_length l) ++ sealed_all (suc b) n (drop body_length l)

-- bytes with zeros behind them, n together
abbrev pub filled : ℕ → List ℕ → List ℕ
filled n l = l ++ replicate (n - length l) 0

-- the 18 blocks with these bytes in block 0 and those in blocks 1 to 17
unfoldable pub row_of : (head held : List ℕ) → List ℕ
row_of head held = sealed 0 (filled body_length head) ++ sealed_all 1 17 (filled room_length held)

-- what is written where so many bytes are lent: all 18 blocks, or nothing where they or the bytes have no place
unfoldable pub row_in : (lent : ℕ) → (head held : List ℕ) → List ℕ
row_in lent head held = cond (leb sealed_length lent && (leb (length head) body_length && leb (length held) room_length)) (row_of head held) []

-- ---- as they are read
-- every block has its number and its sum
unfoldable pub all_hold : List ℕ → (b n : ℕ) → Bool
all_hold s b zero = true
all_hold s b (suc n) = block_holds s b && all_hold s (suc b) n

-- the bytes of n blocks from block b on
unfoldable pub bodies : List ℕ → (b n : ℕ) → List ℕ
bodies s b zero = []
bodies s b (suc n) = take body_length (drop (512 * b + 4) s) ++ bodies s (suc b) n

abbrev pub room_of : List ℕ → List ℕ
room_of s = bodies s 1 17

unfoldable pub all_zero : List ℕ → Bool
all_zero [] = true
all_zero (b ∷ l) = eqb b 0 && all_zero l

-- 18 blocks, each with its number and its sum
unfoldable pub is_row : List ℕ → Bool
is_row s = eqb (length s) sealed_length && all_hold s 0 18

-- whether the room is handed out: a row, and as many bytes lent
abbrev pub unsealed : List ℕ → (lent : ℕ) → Bool
unsealed s lent = is_row s && leb room_length lent
