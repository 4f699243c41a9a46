use Rattle.spec_map.proofs.segment.GroupLaws.{group_start, group_low, group_high, group_large}
use Rattle.segment.proofs.RowLaws.{group_next, group_rest}
use Rattle.segment.proofs.grouping.group_of.Goals as goal

pub loop-numbers-init : goal.loop-numbers-init
loop-numbers-init c = search group_start

pub loop-numbers-preserved : goal.loop-numbers-preserved
loop-numbers-preserved c = search group_next depth 16

pub returns-clause-low_value : goal.returns-clause-low_value
returns-clause-low_value c = search (group_low, group_rest)

pub returns-clause-high_value : goal.returns-clause-high_value
returns-clause-high_value c = search (group_high, group_rest)

pub returns-clause-excess_value : goal.returns-clause-excess_value
returns-clause-excess_value c = search (group_large, group_rest)
