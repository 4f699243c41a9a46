-- A record by a layout that is told as a constant, and where it starts.
use Prim.Native.Nat.{ℕ, ◌+◌, ◌-◌, ◌*◌, ◌^◌, ◌≤◌, ◌<◌}
use mathlib.Core.Bool.{Bool, true, false, not}
use mathlib.Core.Path.{◌≡◌, ap}
use native.Mathlib.Omega.{arith}
use lib.Dec.{eqb}
use borrow.Author.Tests.{eq-eqb, ne_eqb}
use Rattle.spec_sheet.specs.sheet_frames.Frames.{per_block, record_width}

-- the constant as a number
pub told_true : (n : ℕ) → (n ≡ 0 → ⊥) → not (eqb n 0) ≡ true
told_true n h = ap not (ne_eqb n 0 h)

pub told_false : (n : ℕ) → n ≡ 0 → not (eqb n 0) ≡ false
told_false n h = ap not (eq-eqb n 0 h)

-- a record of block b starts below 2 ^ 40
start_fits : (t : Bool) (b k : ℕ) → b < 2 ^ 32 → k ≤ per_block t → 128 * b + 1 + record_width t * k < 2 ^ 40
start_fits false b k h l = omega arith
start_fits true b k h l = omega arith

pub record_starts : (t : Bool) (per width b start i : ℕ) → per ≡ per_block t → width ≡ record_width t → b < 2 ^ 32 → i < start + per → 128 * b + 1 + width * (i - start) < 2 ^ 40
record_starts t per width b start i ep ew h l = rw ew (start_fits t b (i - start) h (omega arith))
