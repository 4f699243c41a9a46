use Prim.Native.Nat.{◌<◌, ◌+◌}
use mathlib.Core.Path.{◌≡◌}
use lib.ListN.{drop}
use Rattle.spec_text.specs.utf8.Utf8.{ascii_run}
use Rattle.utf8.proofs.utf8.plain.Given as goal

abbrev pub invariant-loop-b : goal.invariant-loop-b
invariant-loop-b l = l.most < 0x80 → ascii_run (drop l.i l.s) ≡ l.b-index + ascii_run (drop (l.i + l.b-index) l.s)
