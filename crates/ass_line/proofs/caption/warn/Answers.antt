use Rattle.ass_line.proofs.LineForms.{warn_two}
use Rattle.ass_line.proofs.caption.warn.Goals as goal

pub returns : goal.returns
returns c = warn_two _ _ _ _ _ _ _ _ _ _ c.requires c.warn_at-at.ensures c.warn_at.ensures
