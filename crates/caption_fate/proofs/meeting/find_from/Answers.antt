use Rattle.spec_map.proofs.segment.SegmentLaws.{six_less}
use Rattle.spec_caption.proofs.caption_fate.GroupedLaws.{seeking_start, seeking_group, seeking_again, seeking_found, seeking_none, seeking_less}
use Rattle.caption_fate.proofs.meeting.find_from.Goals as goal

pub loop-t-init : goal.loop-t-init
loop-t-init c = search seeking_start

pub loop-t-smaller-then-group_passed : goal.loop-t-smaller-then-group_passed
loop-t-smaller-then-group_passed c = search seeking_less

pub loop-t-preserved-then-group_passed : goal.loop-t-preserved-then-group_passed
loop-t-preserved-then-group_passed c = search seeking_group depth 12

pub returns-then-meets_within : goal.returns-then-meets_within
returns-then-meets_within c = search seeking_found depth 14

pub loop-t-smaller : goal.loop-t-smaller
loop-t-smaller c = search six_less

pub loop-t-preserved : goal.loop-t-preserved
loop-t-preserved c = seeking_again _ _ _ _ _ _ _ _ _ _ c.loop-t.invariant c.loop-t-test.true c.get_or.ensures c.get_or-in-loop-t.ensures c.meets_within.ensures _ c.if-meets_within.false c.rest-u.ensures

pub returns : goal.returns
returns c = search seeking_none
