use Rattle.std.proofs.lemmas.Result.{err_from_is_err_and}
use Rattle.refusals.proofs.Laws.{refused_not_0}
use Rattle.spec_time.proofs.caption_time.Limits.{number_refused, ticks_done}
use Rattle.caption_time.proofs.convert.units_to_ticks.Goals as goal

pub returns-in_err-units_number : goal.returns-in_err-units_number
returns-in_err-units_number c = let p = err_from_is_err_and c.from_residual.result c.from_residual.ensures.1 in rw (p.1, p.2) (search (number_refused, refused_not_0, c.in_err-units_number.ensures))

pub returns : goal.returns
returns c = search (ticks_done, c.in_ok-units_number.ensures)
