use Rattle.refusals.proofs.Laws.{refused_not_0}
use Rattle.ask_delay.proofs.AnswerLaws.{delay_refused, asks_timescale, asks_map, asks_few, asks_kind, asks_late, asks_one, asks_most, place_near, floor_under, found}
use Rattle.ask_delay.proofs.finding.best_delay.Goals as goal

pub returns-in-Err : goal.returns-in-Err
returns-in-Err c = rw c.from.ensures (search (delay_refused, refused_not_0, c.in-Err.ensures))

pub try_all-best-requires : goal.try_all-best-requires
try_all-best-requires c =
    let e = c.in-Ok.ensures in
    (search (asks_timescale, e), search (asks_kind, e), search (asks_map, e), search (asks_late, e), search (asks_few, e), search (asks_one, e), search (asks_most, e))

pub floor_of-floor-requires : goal.floor_of-floor-requires
floor_of-floor-requires c = let e = c.in-Ok.ensures in (search (asks_timescale, e), search (asks_kind, e), search (asks_late, e), search (asks_few, e))

pub delay_at-requires : goal.delay_at-requires
delay_at-requires c = search (place_near, c.in-Ok.ensures)

pub overflow_sub-result : goal.overflow_sub-result
overflow_sub-result c = search (floor_under, c.in-Ok.ensures)

pub returns-in-Ok : goal.returns-in-Ok
returns-in-Ok c = search (found, c.in-Ok.ensures) depth 16
