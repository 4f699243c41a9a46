use Rattle.refusals.proofs.Laws.{refused_not_0}
use Rattle.spec_ask.proofs.ask_census.Answers.{refused, asks_timescale, asks_kind, asks_map, asks_rises, asks_count, whole_kept, kept_count_lem, counted}
use Rattle.ask_census.proofs.counting.census.Goals as goal

pub returns-in-Err : goal.returns-in-Err
returns-in-Err c = rw c.from.ensures (search (refused, refused_not_0, c.in-Err.ensures))

pub count_starts-t-requires : goal.count_starts-t-requires
count_starts-t-requires c = let e = c.in-Ok.ensures in (search (asks_timescale, e), search (asks_kind, e), search (asks_map, e), search (asks_rises, e), search (asks_count, e))

pub overflow_sub-result : goal.overflow_sub-result
overflow_sub-result c = search (whole_kept, c.in-Ok.ensures)

pub overflow_sub-result-in-Ok : goal.overflow_sub-result-in-Ok
overflow_sub-result-in-Ok c = search (kept_count_lem, c.in-Ok.ensures)

pub returns-in-Ok : goal.returns-in-Ok
returns-in-Ok c = search (counted, c.in-Ok.ensures) depth 12
