use Rattle.spec_caption.proofs.caption_fate.GroupedLaws.{met_within, not_met}
use Rattle.caption_fate.proofs.meeting.meets_within.Goals as goal

pub returns-then-meets : goal.returns-then-meets
returns-then-meets c = search met_within depth 12

pub returns : goal.returns
returns c = search not_met
