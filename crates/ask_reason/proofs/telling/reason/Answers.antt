use Rattle.refusals.proofs.Laws.{refused_not_0}
use Rattle.spec_ask.proofs.ask_reason.Answers.{refused_why_lem, refused_left, room_fill, dropped_why_lem, dropped_left, end_fits, kept_why_lem, kept_left}
use Rattle.ask_reason.proofs.telling.reason.Goals as goal

pub returns-in-Err : goal.returns-in-Err
returns-in-Err c = (rw c.from.ensures (search (refused_why_lem, refused_not_0, c.in-Err.ensures)), search (refused_left, refused_not_0, c.in-Err.ensures))

pub fill-requires : goal.fill-requires
fill-requires c = search (room_fill, c.in-Ok.ensures)

pub overflow_add-x : goal.overflow_add-x
overflow_add-x c = search (end_fits, c.in-Ok.ensures) depth 12

pub returns-in-None : goal.returns-in-None
returns-in-None c = (search (dropped_why_lem, c.in-Ok.ensures) depth 12, search (dropped_left, c.in-Ok.ensures) depth 14)

pub returns-in-Some : goal.returns-in-Some
returns-in-Some c = (search (kept_why_lem, c.in-Ok.ensures) depth 14, search (kept_left, c.in-Ok.ensures) depth 14)
