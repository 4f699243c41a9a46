use mathlib.Core.Path.{◌≡◌}
use Prim.Native.Nat.{◌+◌, ◌≤◌}
use lib.ListN.{length}
use Rattle.spec_text.specs.text.Line.{lines_of}
use Rattle.spec_cue.specs.block_timing.Place.{timing_place}
use Rattle.block_timing.proofs.timing.locate.Given as goal

abbrev pub invariant-loop-t : goal.invariant-loop-t
invariant-loop-t l = (timing_place (lines_of l.block) 0 0 ≡ timing_place (lines_of l.t) l.at l.lines) × (l.at + length l.t ≡ length l.block) × (l.lines ≤ l.at)

abbrev pub decreases-loop-t : goal.decreases-loop-t
decreases-loop-t l = length l.t
