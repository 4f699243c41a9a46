-- Each sample named once (25): the decode indices of the n records of a sheet are each number below n exactly once. s is the sheet's bytes.
use Rattle.std.specs.Prelude.{ℕ, zero, suc, ◌+◌, ◌/◌, ◌%◌, ◌^◌, ◌<◌, Bool, cond, ◌&&◌, List, ◌≡◌, ltb, leb, eqb, get_or, set, replicate}
use Rattle.spec_base.specs.base.Put.{placed}
use Rattle.spec_base.specs.base.Refusal.{◌or_else◌, fault_unless, first_of}
use Rattle.spec_sheet.specs.sheet_frames.Frames.{decode_of}

-- how many of the first k records have the decode index d
unfoldable pub times_named : List ℕ → (k d : ℕ) → ℕ
times_named s zero d = 0
times_named s (suc k) d = times_named s k d + cond (eqb (decode_of s k) d) 1 0

-- in words
pub record EachOnce (s : List ℕ) (n : ℕ) : Type 0 where
  pub below : (i : ℕ) → i < n → decode_of s i < n
  pub once : (d : ℕ) → d < n → times_named s n d ≡ 1

-- ---- the number

-- record i of n (25): its decode index is below n (where 14 was tested it is), and no record before it has it
unfoldable pub repeat_fault : List ℕ → (n i : ℕ) → ℕ
repeat_fault s n i = fault_unless (ltb (decode_of s i) n && eqb (times_named s i (decode_of s i)) 0) 25

-- how many work bytes n frames need: n / 8, rounded up
unfoldable pub work_bytes : ℕ → ℕ
work_bytes n = (n + 7) / 8

-- the number, where `lent` work bytes are lent: 16 for too few, then 25
unfoldable pub once_number : List ℕ → (n lent : ℕ) → ℕ
once_number s n lent =
    fault_unless (leb (work_bytes n) lent) 16 or_else
    first_of (repeat_fault s n) 0 n

-- the work bytes afterwards: those needed are zero, and any others stay; too few stay as they were
unfoldable pub work_once : ℕ → List ℕ → List ℕ
work_once n work = placed (replicate (work_bytes n) 0) work

-- ---- the decode indices met so far, as bits

-- bit d
unfoldable pub bit_of : List ℕ → ℕ → Bool
bit_of w d = eqb (get_or w (d / 8) 0 / 2 ^ (d % 8) % 2) 1

-- the bytes with it set
unfoldable pub with_bit : List ℕ → ℕ → List ℕ
with_bit w d = cond (bit_of w d) w (set w (d / 8) (get_or w (d / 8) 0 + 2 ^ (d % 8)))
