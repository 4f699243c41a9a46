use mathlib.Core.Path.{◌≡◌}
use lib.ListN.{length}
use Rattle.spec_text.specs.whitespace.White.{trim_head}
use Rattle.whitespace.proofs.white.trim_head.Given as goal

abbrev pub invariant-loop-w : goal.invariant-loop-w
invariant-loop-w l = trim_head l.s ≡ trim_head l.t

abbrev pub decreases-loop-w : goal.decreases-loop-w
decreases-loop-w l = length l.t
