use Prim.Native.Nat.{◌+◌}
use mathlib.Core.Path.{◌≡◌}
use mathlib.Core.Bool.{false}
use lib.ListN.{drop}
use Rattle.spec_text.specs.text.Line.{line_length}
use Rattle.text.proofs.line.lf_free.Given as goal

abbrev pub invariant-loop-b : goal.invariant-loop-b
invariant-loop-b l = l.found ≡ false → line_length (drop l.i l.s) ≡ l.b-index + line_length (drop (l.i + l.b-index) l.s)
