use mathlib.Core.Path.{◌≡◌}
use mathlib.Core.List.{◌++◌}
use lib.ListN.{length, drop}
use Rattle.spec_time.specs.caption_stamp.Write.{pad}
use Rattle.caption_stamp.proofs.write.put_digits.Given as goal

abbrev pub invariant-loop-i : goal.invariant-loop-i
invariant-loop-i l = (length l.out ≡ length l.initial.out) × (pad l.i l.rest ++ drop l.i l.out ≡ pad l.k l.n ++ drop l.k l.initial.out)
