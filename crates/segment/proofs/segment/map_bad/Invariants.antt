use Rattle.std.proofs.Common.{◌*◌, drop}
use Rattle.spec_map.proofs.segment.SegmentLaws.{Left}
use Rattle.segment.proofs.segment.map_bad.Given as goal

abbrev pub invariant-loop-numbers : goal.invariant-loop-numbers
invariant-loop-numbers l = Left l.map (drop (6 * l.numbers-index) l.map) l.total
