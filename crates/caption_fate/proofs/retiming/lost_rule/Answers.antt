use Rattle.spec_caption.proofs.caption_fate.HitLaws.{lost_some}
use Rattle.caption_fate.proofs.retiming.lost_rule.Goals as goal

pub returns : goal.returns
returns c = search lost_some
