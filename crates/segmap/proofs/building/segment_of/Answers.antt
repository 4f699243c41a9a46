use native.Mathlib.Omega.{arith}
use Rattle.spec_map.proofs.segmap.TicksLaws.{ticks_order, sum_before, sum_upto}
use Rattle.spec_map.proofs.segmap.BuildLaws.{segment_is}
use Rattle.segmap.proofs.building.segment_of.Goals as goal

pub reach-first-requires-clause-to_le_most_frames : goal.reach-first-requires-clause-to_le_most_frames
reach-first-requires-clause-to_le_most_frames c = (omega arith, search sum_before)

pub reach-last-requires-clause-to_le_most_frames : goal.reach-last-requires-clause-to_le_most_frames
reach-last-requires-clause-to_le_most_frames c = (omega arith, search sum_upto)

pub returns-clause-segment_value : goal.returns-clause-segment_value
returns-clause-segment_value c = (search segment_is, omega arith)

pub overflow_sub-segment : goal.overflow_sub-segment
overflow_sub-segment c = search ticks_order
