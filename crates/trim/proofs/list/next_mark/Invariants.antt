use Prim.Native.Nat.{◌+◌, ◌*◌, ◌≤◌}
use mathlib.Core.Path.{◌≡◌}
use lib.ListN.{drop, length}
use Rattle.spec_text.specs.pattern.Find.{first}
use Rattle.spec_trim.specs.trim.Token.{mark}
use Rattle.trim.proofs.list.next_mark.Given as goal

abbrev pub invariant-loop-k : goal.invariant-loop-k
invariant-loop-k l = (2 * l.k ≤ length l.s) × (first mark l.s ≡ 2 * l.k + first mark (drop (2 * l.k) l.s))
