use Rattle.refusals.proofs.Laws.{refused_not_0}
use Rattle.spec_rows.proofs.caption_rows.ReadLaws.{read_refused, text_short, told_room}
use Rattle.spec_rows.proofs.caption_rows.CallLaws.{call_few, call_told}
use Rattle.caption_rows.proofs.telling.read_cues.Goals as goal

pub returns-in-Err : goal.returns-in-Err
returns-in-Err c = rw c.from.ensures (search (read_refused, refused_not_0, c.in-Err.ensures))

pub places_enough-requires : goal.places_enough-requires
places_enough-requires c = search (text_short, c.in_default.ensures)

pub walk-walked-requires : goal.walk-walked-requires
walk-walked-requires c = search (text_short, c.in_default.ensures)

pub tell-requires : goal.tell-requires
tell-requires c = search (told_room, c.in_default.ensures)

pub returns-then-places_enough : goal.returns-then-places_enough
returns-then-places_enough c = search (call_told, c.in_default.ensures)

pub returns : goal.returns
returns c = rw c.from-2.ensures (search (call_few, c.in_default.ensures))
