use Rattle.caption_rows.proofs.RowForms.{six_none, six_done}
use Rattle.caption_rows.proofs.rows.six_at.Goals as goal

pub returns-then-saturating_sub-lt6 : goal.returns-then-saturating_sub-lt6
returns-then-saturating_sub-lt6 c = six_none _ _ _ c.args.said c.saturating_sub.ensures c.if-saturating_sub-lt6.true

pub returns : goal.returns
returns c = six_done _ _ _ _ c.args.said c.saturating_sub.ensures c.if-saturating_sub-lt6.false c.copy_from_slice.ensures.after
