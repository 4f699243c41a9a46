use Rattle.spec_ass.proofs.ass_line.TellLaws.{tag_yes}
use Rattle.ass_line.proofs.caption.tag_cut.Goals as goal

pub returns-then-cut : goal.returns-then-cut
returns-then-cut c = search tag_yes
