use Rattle.spec_caption.proofs.caption_fate.GroupedLaws.{lost_hit}
use Rattle.caption_fate.proofs.meeting.met_behind.Goals as goal

pub returns : goal.returns
returns c = search lost_hit
