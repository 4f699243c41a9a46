-- Laws of the sums that are carried from range to range.
use mathlib.Core.Path.{◌≡◌, sym, ap, ◌∙◌}
use mathlib.Core.Bool.{Bool}
use mathlib.Core.List.{List}
use Prim.Native.Nat.{ℕ, ◌+◌, ◌-◌, ◌^◌, ◌≤◌, ◌<◌}
use native.Mathlib.Omega.{arith}
use Rattle.spec_base.specs.base.Limits.{most_ticks}
use Rattle.spec_sheet.specs.sheet_frames.Frames.{long_of, record_word, decode_of, duration_in, ticks_from}
use Rattle.spec_sheet.proofs.sheet_frames.FrameLaws.{duration_is}
use Rattle.spec_sheet.proofs.sheet_frames.TicksLaws.{ticks_next, ticks_split, ticks_more}

-- the same place told in two ways; the last sample added
pub ticks_moved : (s : List ℕ) (i j t : ℕ) → i ≡ j → t ≡ ticks_from s 0 j → t ≡ ticks_from s 0 i
ticks_moved s i j t e f = f ∙ sym (ap (ticks_from s 0) e)

pub ticks_done : (s : List ℕ) (i e t : ℕ) → i ≤ e → e ≤ i → t ≡ ticks_from s 0 i → t ≡ ticks_from s 0 e
ticks_done s i e t h k f =
    let q : i ≡ e = omega arith in
    f ∙ ap (ticks_from s 0) q

pub ticks_order : (s : List ℕ) (x k p q : ℕ) → p ≡ ticks_from s 0 x → q ≡ ticks_from s 0 (x + k) → p ≤ q
ticks_order s x k p q e f = omega (arith, ticks_split s x k)

-- ---- sums within the tick limit
-- one sample more, of duration d in the layout u, does not overflow, and is the next sum
module _ (s : List ℕ) (i t d : ℕ) (u : Bool) (eu : u ≡ long_of s) (p : t ≡ ticks_from s 0 i) (q : d ≡ duration_in u s (record_word u i)) where
  pub sample_next : t + d ≡ ticks_from s 0 (i + 1)
  sample_next = ticks_next s i t d p (duration_is s i d u eu q)

  pub sample_fits : (e : ℕ) → i < e → ticks_from s 0 e ≤ most_ticks → t + d < 2 ^ 64
  sample_fits e h m = omega (arith, sample_next, ticks_more s (i + 1) e (omega arith))

-- those before a place are, where those up to a later one are
pub ticks_before : (s : List ℕ) (i k : ℕ) → ticks_from s 0 (i + k) ≤ most_ticks → ticks_from s 0 i ≤ most_ticks
ticks_before s i k h = omega (arith, ticks_split s i k)

-- the range a to e, of k frames from decode index x on
pub sum_before : (s : List ℕ) (a e x : ℕ) → ticks_from s 0 (decode_of s a + (e - a)) ≤ most_ticks → x ≡ decode_of s a → ticks_from s 0 x ≤ most_ticks
sum_before s a e x h ex = omega (arith, ticks_before s (decode_of s a) (e - a) h, ap (ticks_from s 0) ex)

pub sum_upto : (s : List ℕ) (a e k x : ℕ) → ticks_from s 0 (decode_of s a + (e - a)) ≤ most_ticks → k ≡ e - a → x ≡ decode_of s a → ticks_from s 0 (x + k) ≤ most_ticks
sum_upto s a e k x h ek ex =
    let j : x + k ≡ decode_of s a + (e - a) = omega arith in
    omega (arith, ap (ticks_from s 0) j)
