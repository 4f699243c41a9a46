use mathlib.Core.Path.{◌≡◌}
use lib.ListN.{take}
use Rattle.spec_session.proofs.session_state.HeldLaws.{closed_length}
use Rattle.session_state.proofs.held.block_end.Given as goal

abbrev pub invariant-loop-i : goal.invariant-loop-i
invariant-loop-i l = closed_length l.held ≡ closed_length (take l.i l.held)
