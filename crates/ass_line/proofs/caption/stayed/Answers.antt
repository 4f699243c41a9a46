use Rattle.spec_ass.proofs.ass_line.TellLaws.{stayed_told}
use Rattle.ass_line.proofs.caption.stayed.Goals as goal

pub returns : goal.returns
returns c = stayed_told _ _ _ _ c.requires c.put-written.ensures
