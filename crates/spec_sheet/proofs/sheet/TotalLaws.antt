-- Laws of the sum of a sheet's durations.
use Prim.Native.Nat.{ℕ, ◌+◌, ◌-◌, ◌≤◌, ◌<◌}
use mathlib.Core.Bool.{Bool, false}
use mathlib.Core.List.{List}
use mathlib.Core.Path.{◌≡◌, sym, ap, ◌∙◌}
use native.Mathlib.Omega.{arith}
use lib.ListN.{get_or}
use borrow.Author.Tests.{le-leb, lt-leb, leb-true}
use Rattle.spec_base.specs.base.Limits.{most_frames, most_ticks}
use Rattle.spec_base.proofs.base.RefusalLaws.{held, unless_held, unless_failed}
use Rattle.spec_sheet.specs.sheet_frames.Frames.{long_of, duration_of, ticks_from}
use Rattle.spec_sheet.proofs.sheet_frames.TicksLaws.{ticks_none, ticks_next, ticks_more, ticks_within_lem}
use Rattle.spec_sheet.specs.sheet.Sheet.{total_fault}

pub total_held : (s : List ℕ) (n : ℕ) → ticks_from s 0 n ≤ most_ticks → 0 ≡ total_fault s n
unfolding total_fault
total_held s n h = sym (unless_held 26 (le-leb (ticks_from s 0 n) most_ticks h))

pub total_within : (s : List ℕ) (n : ℕ) → total_fault s n ≡ 0 → ticks_from s 0 n ≤ most_ticks
unfolding total_fault
total_within s n e = leb-true _ _ (held _ 26 (omega arith) e)

pub total_failed : (s : List ℕ) (n : ℕ) → most_ticks < ticks_from s 0 n → 26 ≡ total_fault s n
unfolding total_fault
total_failed s n h = sym (unless_failed 26 (lt-leb (ticks_from s 0 n) most_ticks h))

-- ---- the loop: `left` is what the first i samples leave of the limit, d the duration of the next
abbrev pub Left : List ℕ → (left i : ℕ) → Type 0
Left s left i = left + ticks_from s 0 i ≡ most_ticks

pub total_start : (s : List ℕ) → Left s most_ticks 0
total_start s = omega (arith, ticks_none s 0 0 (omega arith))

pub total_over : (s : List ℕ) (n left i d : ℕ) → Left s left i → i < n → d ≡ duration_of s i → left < d → 26 ≡ total_fault s n
total_over s n left i d inv h e l =
    total_failed s n (omega (arith, ticks_next s i (ticks_from s 0 i) d (ap (ticks_from s 0) (omega arith)) e, ticks_more s (i + 1) n (omega arith)))

pub total_next : (s : List ℕ) (left i d : ℕ) → Left s left i → d ≡ duration_of s i → d ≤ left → Left s (left - d) (i + 1)
total_next s left i d inv e l = omega (arith, ticks_next s i (ticks_from s 0 i) d (ap (ticks_from s 0) (omega arith)) e)

pub total_done : (s : List ℕ) (n left i : ℕ) → Left s left i → i ≤ n → n ≤ i → 0 ≡ total_fault s n
total_done s n left i inv h k =
    let j : i ≡ n = omega arith in
    total_held s n (omega (arith, ap (ticks_from s 0) j))

-- ---- in the first layout there is no such fault
pub total_short : (s : List ℕ) (n : ℕ) (t : Bool) → ((j : ℕ) → get_or s j 0 < 256) → t ≡ long_of s → t ≡ false → n ≤ most_frames → 0 ≡ total_fault s n
total_short s n t bytes et e h = total_held s n (ticks_within_lem s bytes (sym et ∙ e) 0 n h)
