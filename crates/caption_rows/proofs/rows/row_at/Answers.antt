use Rattle.spec_rows.proofs.caption_rows.RowLaws.{some_place, some_rows, none_place, none_rows}
use Rattle.caption_rows.proofs.rows.row_at.Goals as goal

pub returns-then-said : goal.returns-then-said
returns-then-said c = (search some_place, search some_rows)

pub returns-else-said : goal.returns-else-said
returns-else-said c = (search none_place, search none_rows)
