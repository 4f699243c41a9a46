use Rattle.refusals.proofs.Laws.{refused_not_0}
use Rattle.spec_ask.proofs.ask_rough.Answers.{refused, sure_kept, not_sure, sure_dropped}
use Rattle.ask_rough.proofs.judging.rough.Goals as goal

pub returns-in-Err : goal.returns-in-Err
returns-in-Err c = rw c.from.ensures (search (refused, refused_not_0, c.in-Err.ensures))

pub returns-then-kept_at : goal.returns-then-kept_at
returns-then-kept_at c = search (sure_kept, c.in-Ok.ensures) depth 12

pub returns-then-kept_at-2 : goal.returns-then-kept_at-2
returns-then-kept_at-2 c = search (not_sure, c.in-Ok.ensures) depth 12

pub returns-else-kept_at-2 : goal.returns-else-kept_at-2
returns-else-kept_at-2 c = search (sure_dropped, c.in-Ok.ensures) depth 12
