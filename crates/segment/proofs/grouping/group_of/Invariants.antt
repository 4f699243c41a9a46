use Rattle.std.proofs.Common.{◌*◌, drop}
use Rattle.spec_map.proofs.segment.GroupLaws.{GroupLeft}
use Rattle.segment.proofs.grouping.group_of.Given as goal

abbrev pub invariant-loop-numbers : goal.invariant-loop-numbers
invariant-loop-numbers l = GroupLeft l.row (drop (6 * l.numbers-index) l.row) l.low l.high l.excess
