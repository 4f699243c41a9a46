use Rattle.segment.proofs.RowLaws.{parts_left, too_many, left_start, left_next, left_end}
use Rattle.segment.proofs.segment.map_bad.Goals as goal
use Rattle.segment.proofs.segment.map_bad.Goals.{then-not-is_empty-via-then-not-is_empty, then-not-is_empty-via-else-not-is_empty+then-segments-gt-MOST_SEGMENTS}

pub returns-then-not-is_empty : goal.returns-then-not-is_empty
returns-then-not-is_empty c = elim c.then-not-is_empty.branch [ then-not-is_empty-via-then-not-is_empty w ↦ search parts_left | then-not-is_empty-via-else-not-is_empty+then-segments-gt-MOST_SEGMENTS w ↦ search too_many ]

pub loop-numbers-init : goal.loop-numbers-init
loop-numbers-init c = search left_start

pub loop-numbers-preserved : goal.loop-numbers-preserved
loop-numbers-preserved c = search left_next

pub returns : goal.returns
returns c = search left_end
