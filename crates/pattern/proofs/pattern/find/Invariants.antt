use Prim.Native.Nat.{◌≤◌, ◌+◌}
use mathlib.Core.Path.{◌≡◌}
use lib.ListN.{length, drop}
use Rattle.spec_text.specs.pattern.Find.{first}
use Rattle.pattern.proofs.pattern.find.Given as goal

abbrev pub invariant-loop-i : goal.invariant-loop-i
invariant-loop-i l = (l.i ≤ length l.s) × (first l.p l.s ≡ l.i + first l.p (drop l.i l.s))
