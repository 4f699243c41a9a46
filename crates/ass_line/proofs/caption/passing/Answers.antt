use Rattle.spec_ass.proofs.ass_line.TellLaws.{passing_told}
use Rattle.ass_line.proofs.caption.passing.Goals as goal

pub returns : goal.returns
returns c = search passing_told
