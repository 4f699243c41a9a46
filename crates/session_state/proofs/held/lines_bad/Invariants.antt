use mathlib.Core.Path.{◌≡◌}
use lib.ListN.{length}
use Rattle.spec_text.specs.text.Line.{lines_of}
use Rattle.spec_machine.specs.kinds.Kit.{lines_bad}
use Rattle.session_state.proofs.held.lines_bad.Given as goal

abbrev pub invariant-loop-t : goal.invariant-loop-t
invariant-loop-t l = lines_bad l.kind (lines_of l.s) ≡ lines_bad l.kind (lines_of l.t)

abbrev pub decreases-loop-t : goal.decreases-loop-t
decreases-loop-t l = length l.t
