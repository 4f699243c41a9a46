use mathlib.Core.Path.{◌≡◌}
use Rattle.spec_sheet.specs.sheet_frames.Frames.{ticks_from}
use Rattle.segmap.proofs.sums.add_up.Given as goal

abbrev pub invariant-loop-i : goal.invariant-loop-i
invariant-loop-i l = l.ticks ≡ ticks_from l.s 0 l.i
