use Rattle.spec_caption.proofs.caption_fate.GroupedLaws.{within_1, within_2, within_3}
use Rattle.caption_fate.proofs.meeting.within.Goals as goal

pub returns-then-source-low : goal.returns-then-source-low
returns-then-source-low c = search within_1

pub returns-then-high-source : goal.returns-then-high-source
returns-then-high-source c = search within_2

pub returns : goal.returns
returns c = search within_3
