use Rattle.spec_rows.proofs.caption_rows.LineLaws.{words_field}
use Rattle.caption_rows.proofs.RowForms.{words_none}
use Rattle.caption_rows.proofs.dialogue.words_length.Goals as goal

pub returns-then-columns-2 : goal.returns-then-columns-2
returns-then-columns-2 c = words_none _ _ c.if-columns-2.either

pub returns-else-columns-2 : goal.returns-else-columns-2
returns-else-columns-2 c = words_field _ _ _ c.if-columns-2.false.0 c.if-columns-2.false.1 c.field.ensures
