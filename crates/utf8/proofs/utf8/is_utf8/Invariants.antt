use mathlib.Core.Path.{◌≡◌}
use lib.ListN.{length}
use Rattle.spec_text.specs.utf8.Utf8.{utf8}
use Rattle.utf8.proofs.utf8.is_utf8.Given as goal

abbrev pub invariant-loop-t : goal.invariant-loop-t
invariant-loop-t l = utf8 l.s ≡ utf8 l.t

abbrev pub decreases-loop-t : goal.decreases-loop-t
decreases-loop-t l = length l.t
