use Rattle.spec_caption.proofs.caption_fate.HitLaws.{met_told}
use Rattle.caption_fate.proofs.meeting.met_at.Goals as goal

pub returns : goal.returns
returns c = search met_told
