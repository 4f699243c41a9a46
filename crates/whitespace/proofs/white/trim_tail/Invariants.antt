use mathlib.Core.Path.{◌≡◌}
use lib.ListN.{length}
use Rattle.spec_text.specs.whitespace.White.{keep_from}
use Rattle.whitespace.proofs.white.trim_tail.Given as goal

abbrev pub invariant-loop-n : goal.invariant-loop-n
invariant-loop-n l = keep_from l.s (length l.s) 0 ≡ keep_from l.s l.n 0

abbrev pub decreases-loop-n : goal.decreases-loop-n
decreases-loop-n l = l.n
