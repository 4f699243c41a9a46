use Rattle.refusals.proofs.Laws.{refused_not_0}
use Rattle.spec_runs.proofs.one_call.ToldLaws.{open_refused, lengths_refused, is_ready, told_fits, text_done}
use Rattle.one_call.proofs.telling.retime.Goals as goal

pub returns-then-opened-ne0 : goal.returns-then-opened-ne0
returns-then-opened-ne0 c = search open_refused

pub returns-in-Err : goal.returns-in-Err
returns-in-Err c = rw c.from.ensures (search (lengths_refused, refused_not_0, c.in-Err.ensures))

pub run_text-ran-requires : goal.run_text-ran-requires
run_text-ran-requires c = search (is_ready, c.in_default.ensures)

pub tell-requires : goal.tell-requires
tell-requires c = search (told_fits, c.in_default.ensures)

pub returns : goal.returns
returns c = search (text_done, c.in_default.ensures)
