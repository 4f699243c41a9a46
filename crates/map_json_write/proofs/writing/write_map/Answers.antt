use Rattle.map_json_write.proofs.AnswerLaws.{asked_short, asked_path, write_refused, write_short, write_done}
use Rattle.refusals.proofs.Laws.{refused_not_0}
use Rattle.map_json_write.proofs.writing.write_map.Goals as goal

pub returns-in-Err : goal.returns-in-Err
returns-in-Err c = rw c.refused.ensures (search (write_refused, refused_not_0, c.in-Err.ensures))

pub map_at-size-requires : goal.map_at-size-requires
map_at-size-requires c = (search (asked_short, c.in_default.ensures), search (asked_path, c.in_default.ensures))

pub returns-then-text-size : goal.returns-then-text-size
returns-then-text-size c = rw c.refused-then-text-size.ensures (search (write_short, c.in_default.ensures))

pub map_at-written-requires : goal.map_at-written-requires
map_at-written-requires c = (search (asked_short, c.in_default.ensures), search (asked_path, c.in_default.ensures))

pub returns : goal.returns
returns c = search (write_done, c.in_default.ensures)
