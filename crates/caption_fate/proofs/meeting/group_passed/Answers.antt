use mathlib.Core.Path.{refl}
use Rattle.spec_caption.proofs.caption_fate.GroupedLaws.{passed_0, passed_1, passed_2}
use Rattle.caption_fate.proofs.meeting.group_passed.Goals as goal

pub returns-then-part-ne0 : goal.returns-then-part-ne0
returns-then-part-ne0 c = passed_0 _ _ _ _ _ refl c.if-part-ne0.true

pub returns-then-high-a : goal.returns-then-high-a
returns-then-high-a c = search passed_1 depth 10

pub returns : goal.returns
returns c = search passed_2 depth 10
