use native.Mathlib.Omega.{arith}
use Rattle.spec_map.proofs.segment.SegmentLaws.{six_less}
use Rattle.spec_caption.proofs.caption_fate.HitLaws.{hit_place, hit_found, hit_again, hit_none}
use Rattle.caption_fate.proofs.PassLaws.{hit_start}
use Rattle.caption_fate.proofs.meeting.find_hit.Goals as goal

pub overflow_mul-place : goal.overflow_mul-place
overflow_mul-place c = omega (arith, c.passed-place.ensures.within)

pub loop-t-init : goal.loop-t-init
loop-t-init c = hit_start _ _ _ _ _ c.passed-place.ensures c.rest-t.ensures

pub returns-then-meets : goal.returns-then-meets
returns-then-meets c = search hit_found depth 12

pub loop-t-smaller : goal.loop-t-smaller
loop-t-smaller c = search six_less

pub loop-t-preserved : goal.loop-t-preserved
loop-t-preserved c = (search hit_again depth 12, search hit_place)

pub returns : goal.returns
returns c = search hit_none
