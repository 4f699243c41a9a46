-- Laws of the durations added up in decode order.
use mathlib.Core.Path.{◌≡◌, ap, ◌∙◌}
use mathlib.Core.Bool.{false}
use mathlib.Core.List.{List}
use Prim.Native.Nat.{ℕ, zero, suc, ◌+◌, ◌-◌, ◌*◌, ◌^◌, ◌≤◌, ◌<◌}
use native.Mathlib.Omega.{arith}
use native.Mathlib.Nat.{zero-add}
use native.Mathlib.Numerals.{add-one}
use lib.ListN.{get_or}
use Rattle.spec_base.specs.base.Limits.{most_frames, most_ticks}
use Rattle.spec_sheet.proofs.checked_blocks.WordLaws.{word_below}
use Rattle.spec_sheet.specs.sheet_frames.Frames.{long_of, record_word, duration_of, ticks_from}

pub ticks_none : (s : List ℕ) (i k : ℕ) → k ≡ 0 → ticks_from s i k ≡ 0
unfolding ticks_from
ticks_none s i k e = rw e

-- one sample more
pub ticks_next : (s : List ℕ) (i t d : ℕ) → t ≡ ticks_from s 0 i → d ≡ duration_of s i → t + d ≡ ticks_from s 0 (i + 1)
unfolding ticks_from
ticks_next s i t d e f = rw add-one (rw zero-add (rw (e, f)))

-- the sum up to one place, and on from there
pub ticks_split : (s : List ℕ) (i k : ℕ) → ticks_from s 0 (i + k) ≡ ticks_from s 0 i + ticks_from s i k
unfolding ticks_from
ticks_split s i zero =
    let q : i + 0 ≡ i = omega arith in
    ap (ticks_from s 0) q ∙ omega arith
ticks_split s i (suc k) =
    let q : i + suc k ≡ suc (i + k) = omega arith in
    let p : duration_of s (0 + (i + k)) ≡ duration_of s (i + k) = ap (duration_of s) (zero-add (i + k)) in
    ap (ticks_from s 0) q ∙ omega (arith, ticks_split s i k)

-- more samples take at least as long
pub ticks_more : (s : List ℕ) (i k : ℕ) → i ≤ k → ticks_from s 0 i ≤ ticks_from s 0 k
ticks_more s i k h =
    let q : i + (k - i) ≡ k = omega arith in
    omega (arith, ticks_split s i (k - i), ap (ticks_from s 0) q)

-- ---- the first layout: durations of 32 bits
module _ (s : List ℕ) (bytes : (j : ℕ) → get_or s j 0 < 256) (short : long_of s ≡ false) where
  pub duration_short_word : (i : ℕ) → duration_of s i < 2 ^ 32
  unfolding duration_of
  duration_short_word i = rw short (word_below s (record_word false i + 1) bytes)

  pub ticks_most : (i k : ℕ) → ticks_from s i k ≤ 4294967295 * k
  unfolding ticks_from
  ticks_most i zero = omega arith
  ticks_most i (suc k) = omega (arith, duration_short_word (i + k), ticks_most i k)

  -- all samples of a sheet stay within the tick limit
  pub ticks_within_lem : (i k : ℕ) → k ≤ most_frames → ticks_from s i k ≤ most_ticks
  ticks_within_lem i k h = omega (arith, ticks_most i k)
