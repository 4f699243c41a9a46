use Rattle.std.proofs.lemmas.Result.{err_from_is_err_and}
use Rattle.refusals.proofs.Laws.{refused_not_0}
use Rattle.spec_base.proofs.base.RefusalLaws.{else_here}
use Rattle.spec_time.proofs.caption_time.Limits.{value_over, value_within}
use Rattle.spec_time.specs.caption_time.Convert.{ticks_number}
use Rattle.caption_time.proofs.convert.ticks_number.Goals as goal

pub returns-in_err-setting_number : goal.returns-in_err-setting_number
unfolding ticks_number
returns-in_err-setting_number c = let p = err_from_is_err_and c.from_residual.result c.from_residual.ensures.1 in rw (p.1, p.2) (search (else_here, refused_not_0, c.in_err-setting_number.ensures))

pub returns-then-value-gt-MOST_TICKS : goal.returns-then-value-gt-MOST_TICKS
unfolding ticks_number
returns-then-value-gt-MOST_TICKS c = search (value_over, c.in_ok-setting_number.ensures)

pub returns : goal.returns
unfolding ticks_number
returns c = search (value_within, c.in_ok-setting_number.ensures)
