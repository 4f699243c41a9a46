use Rattle.std.proofs.Common.{◌≡◌}
use Rattle.std.specs.Slice.Iter.{chunks_rest, chunks_size}
use Rattle.spec_map.proofs.segment.GroupLaws.{Survey}
use Rattle.segment.proofs.grouping.survey.Given as goal

abbrev pub invariant-loop-row : goal.invariant-loop-row
invariant-loop-row l = (chunks_size l.row-iterator ≡ 96) × Survey l.map (chunks_rest l.row-iterator) l.count l.excess l.initial.groups l.groups
