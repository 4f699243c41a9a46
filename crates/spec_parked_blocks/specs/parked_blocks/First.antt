-- The first blocks of a row: block 0, and as many of blocks 1 to 17 as n bytes take. Where the blocks behind them have nothing but zeros they are all that is read and written.
use Rattle.std.specs.Prelude.{Bool, ◌&&◌, cond, List, [], ◌++◌, ℕ, ◌+◌, ◌*◌, ◌/◌, min, leb, length, take, drop}
use Rattle.spec_parked_blocks.specs.parked_blocks.Sealed.{sealed_length, body_length, room_length, sealed, sealed_all, filled, all_hold, bodies, room_of, all_zero, is_row}

-- how many of blocks 1 to 17 n bytes take
unfoldable pub blocks_for : ℕ → ℕ
blocks_for n = min 17 ((n + 503) / 504)

-- ---- as they are written
-- block 0 with these bytes and k blocks with those, zeros behind each
unfoldable pub first_blocks : (k : ℕ) → (head held : List ℕ) → List ℕ
first_blocks k head held = sealed 0 (filled body_length head) ++ sealed_all 1 k (filled room_length held)

-- what is written where so many bytes are lent: the blocks that n bytes take, or nothing where a row or the bytes have no place
unfoldable pub first_in : (lent n : ℕ) → (head held : List ℕ) → List ℕ
first_in lent n head held =
    cond (leb sealed_length lent && (leb (length head) body_length && leb (length held) room_length)) (first_blocks (blocks_for n) head held) []

-- ---- as they are read
-- the bytes of the blocks that n bytes take
unfoldable pub first_room : (n : ℕ) → List ℕ → List ℕ
first_room n s = take (body_length * blocks_for n) (room_of s)

-- blocks that hold, with nothing but zeros
unfoldable pub blank_all : List ℕ → (b n : ℕ) → Bool
blank_all s b n = all_hold s b n && all_zero (bodies s b n)

-- a row with nothing but zeros behind its first k blocks after block 0
unfoldable pub short_row : List ℕ → (k : ℕ) → Bool
short_row s k = is_row s && all_zero (drop (body_length * k) (room_of s))

-- whether these bytes are handed out: such a row, and as many bytes lent as the room has
unfoldable pub unsealed_first : List ℕ → (n lent : ℕ) → Bool
unsealed_first s n lent = short_row s (blocks_for n) && leb room_length lent
