use Rattle.std.proofs.Common.{rules, refl}
use Rattle.spec_map.proofs.segment.SegmentLaws.{past_tells}
use Rattle.segment.proofs.segment.past.Goals as goal

pub returns-clause-result_value : goal.returns-clause-result_value
returns-clause-result_value c = past_tells _ _ _ _ (search rules) (search rules) refl refl
