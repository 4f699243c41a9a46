use Rattle.spec_caption.proofs.caption_fate.HitLaws.{meets_1, meets_2, meets_3, meets_4}
use Rattle.caption_fate.proofs.meeting.meets.Goals as goal

pub returns-then-duration-eq0 : goal.returns-then-duration-eq0
returns-then-duration-eq0 c = search meets_1

pub returns-then-b-source : goal.returns-then-b-source
returns-then-b-source c = search meets_2

pub returns-then-a-source : goal.returns-then-a-source
returns-then-a-source c = search meets_3

pub returns : goal.returns
returns c = search meets_4
