-- Counts above a number, one by one.
use mathlib.Core.Path.{◌≡◌}
use mathlib.Core.Bool.{true}
use Prim.Native.Nat.{ℕ, ◌≤◌, ◌<◌}
use lib.Dec.{ltb}
use borrow.Author.Tests.{lt-ltb, le-ltb}
use Rattle.spec_machine.specs.declared.session_counts.Counts.{Counts}
use Rattle.spec_machine.specs.session_counts.Session.{counts_above}

module _ (t : ℕ) (c : Counts) where
  pub above_shifted : t < c.shifted → true ≡ counts_above t c
  above_shifted p = rw (lt-ltb t c.shifted p)

  pub above_clipped : c.shifted ≤ t → t < c.clipped → true ≡ counts_above t c
  above_clipped p q = rw (le-ltb t c.shifted p, lt-ltb t c.clipped q)

  pub above_dropped : c.shifted ≤ t → c.clipped ≤ t → t < c.dropped → true ≡ counts_above t c
  above_dropped p q r = rw (le-ltb t c.shifted p, le-ltb t c.clipped q, lt-ltb t c.dropped r)

  pub above_passed : c.shifted ≤ t → c.clipped ≤ t → c.dropped ≤ t → ltb t c.passed ≡ counts_above t c
  above_passed p q r = rw (le-ltb t c.shifted p, le-ltb t c.clipped q, le-ltb t c.dropped r)
