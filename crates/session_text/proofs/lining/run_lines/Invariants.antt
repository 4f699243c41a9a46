use mathlib.Core.Path.{◌≡◌}
use mathlib.Core.Bool.{true}
use Rattle.spec_text.specs.utf8.Utf8.{utf8}
use Rattle.spec_text.specs.text.Line.{concat}
use Rattle.spec_machine.specs.session_counts.Cut.{closed_lines}
use Prim.Native.Nat.{◌-◌}
use lib.ListN.{length, drop}
use Rattle.spec_session.specs.session_text.Lined.{lined_of, Lining}
use Rattle.session_text.proofs.lining.run_lines.Given as goal

abbrev pub invariant-loop-i : goal.invariant-loop-i
invariant-loop-i l = Lining l.head l.map l.text (lined_of 0 l.n l.counts l.columns l.b l.i l.o l.w) l.initial.out l.out l.initial.warnings l.warnings × (l.good ≡ true → utf8 (concat (closed_lines (drop l.i l.text))) ≡ true)

abbrev pub decreases-loop-i : goal.decreases-loop-i
decreases-loop-i l = length l.text - l.i
