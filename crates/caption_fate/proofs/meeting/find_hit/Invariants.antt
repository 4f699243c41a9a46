use mathlib.Core.Path.{◌≡◌}
use Prim.Native.Nat.{◌+◌, ◌≤◌}
use lib.ListN.{length}
use Rattle.spec_map.specs.segment.Segment.{segments_of}
use Rattle.spec_caption.specs.caption_fate.Hit.{find_hit, find_from}
use Rattle.caption_fate.proofs.meeting.find_hit.Given as goal

abbrev pub invariant-loop-t : goal.invariant-loop-t
invariant-loop-t l = (find_hit (segments_of l.map) l.a l.b ≡ find_from l.place (segments_of l.t) l.a l.b) × (l.place + length l.t ≤ length l.map)

abbrev pub decreases-loop-t : goal.decreases-loop-t
decreases-loop-t l = length l.t
