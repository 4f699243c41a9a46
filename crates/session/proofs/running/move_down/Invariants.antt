use mathlib.Core.Path.{◌≡◌}
use Prim.Native.Nat.{◌+◌}
use lib.ListN.{length, take, drop}
use mathlib.Core.List.{◌++◌}
use Rattle.session.proofs.running.move_down.Given as goal

abbrev pub invariant-loop-i : goal.invariant-loop-i
invariant-loop-i l = (take (l.s + l.i) l.held ≡ take l.s l.initial.held ++ take l.i (drop (l.s + l.k) l.initial.held)) × (drop (l.s + l.k + l.i) l.held ≡ drop (l.s + l.k + l.i) l.initial.held) × (length l.held ≡ length l.initial.held)
