use Prim.Native.Nat.{◌≤◌, ◌+◌}
use mathlib.Core.Path.{◌≡◌}
use lib.ListN.{length, drop}
use Rattle.spec_text.specs.utf8.Utf8.{ascii_run}
use Rattle.utf8.proofs.utf8.ascii_run.Given as goal

abbrev pub invariant-loop-i : goal.invariant-loop-i
invariant-loop-i l = (l.i ≤ length l.s) × (ascii_run l.s ≡ l.i + ascii_run (drop l.i l.s))
