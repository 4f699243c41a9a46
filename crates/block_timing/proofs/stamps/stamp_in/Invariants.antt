use mathlib.Core.Path.{◌≡◌}
use lib.ListN.{drop}
use Rattle.spec_cue.specs.block_timing.Style.{stamp_in}
use Rattle.block_timing.proofs.stamps.stamp_in.Given as goal

abbrev pub invariant-loop-i : goal.invariant-loop-i
invariant-loop-i l = stamp_in l.s ≡ stamp_in (drop l.i l.s)
