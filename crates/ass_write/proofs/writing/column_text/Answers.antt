use Rattle.ass_write.proofs.FieldLoop.{text_stop, text_start, text_field}
use Rattle.ass_write.proofs.writing.column_text.Goals as goal

pub returns-then-k-columns : goal.returns-then-k-columns
returns-then-k-columns c = search text_stop

pub returns-then-k-columns-2 : goal.returns-then-k-columns-2
returns-then-k-columns-2 c = search text_start

pub returns-else-k-columns-2 : goal.returns-else-k-columns-2
returns-else-k-columns-2 c = search text_field
