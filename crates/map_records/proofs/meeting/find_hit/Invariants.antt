use Rattle.std.proofs.Common.{◌≡◌, ◌≤◌, length, drop}
use Rattle.spec_caption.specs.caption_fate.Hit.{find_from}
use Rattle.map_records.proofs.meeting.find_hit.Given as goal

abbrev pub invariant-loop-i : goal.invariant-loop-i
invariant-loop-i l = (l.i ≤ length l.map) × (find_from 0 l.map l.start l.end ≡ find_from l.i (drop l.i l.map) l.start l.end)
