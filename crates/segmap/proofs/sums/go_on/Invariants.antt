use mathlib.Core.Path.{◌≡◌}
use Prim.Native.Nat.{◌-◌, ◌≤◌}
use lib.ListN.{length}
use Rattle.spec_sheet.specs.sheet_frames.Frames.{ticks_from}
use Rattle.segmap.specs.Milestones.{Noted}
use Rattle.segmap.proofs.sums.go_on.Given as goal

abbrev pub invariant-loop-reached : goal.invariant-loop-reached
invariant-loop-reached l = (length l.milestones ≡ 1025) × (l.reached.decode.0 ≤ l.to.0) × (l.reached.ticks ≡ ticks_from l.s 0 l.reached.decode.0) × Noted l.s l.initial.reached.decode.0 l.reached.decode.0 l.initial.milestones l.milestones

abbrev pub decreases-loop-reached : goal.decreases-loop-reached
decreases-loop-reached l = l.to.0 - l.reached.decode.0
