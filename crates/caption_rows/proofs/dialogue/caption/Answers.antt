use Rattle.spec_rows.proofs.caption_rows.LineLaws.{caption_3, caption_4, caption_fits, caption_room}
use Rattle.caption_rows.proofs.RowForms.{caption_unplaced}
use Rattle.caption_rows.proofs.dialogue.caption.Goals as goal

pub returns-then-columns-eq0 : goal.returns-then-columns-eq0
returns-then-columns-eq0 c = caption_unplaced _ _ _ _ 0 _ _ c.text_of-t.ensures _ c.then-columns-eq0.either c.passing.ensures

pub timed-requires : goal.timed-requires
timed-requires c = (search caption_room, search caption_fits)

pub returns-then-enough : goal.returns-then-enough
returns-then-enough c = search caption_3

pub returns-else-enough : goal.returns-else-enough
returns-else-enough c = search caption_4
