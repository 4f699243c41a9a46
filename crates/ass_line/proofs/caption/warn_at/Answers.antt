use Rattle.ass_line.proofs.LineForms.{warn_yes, warn_no}
use Rattle.ass_line.proofs.caption.warn_at.Goals as goal

pub returns-then-warns : goal.returns-then-warns
returns-then-warns c = warn_yes _ _ _ _ _ _ _ c.if-warns.true c.put_at.ensures

pub returns-else-warns : goal.returns-else-warns
returns-else-warns c = warn_no _ _ _ _ _ c.if-warns.false
