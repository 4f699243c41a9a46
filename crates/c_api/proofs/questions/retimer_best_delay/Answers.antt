use mathlib.Core.Path.{ap, ◌∙◌}
use mir.Syntax.{w64}
use mir.ValLaws.{to_z-of_z}
use Rattle.spec_ask.specs.declared.ask_delay.Delay.{Delay}
use Rattle.c_api.proofs.Shift.{shift_number, stays, delay_stays, none_refused, loss_told, tried_told, off_told}
use borrow.Author.Rules.{rules}
use Rattle.c_api.proofs.questions.retimer_best_delay.Goals as goal

pub returns-then-number-ne0-clause-value : goal.returns-then-number-ne0-clause-value
returns-then-number-ne0-clause-value c = search shift_number

pub returns-then-number-ne0-clause-delay_after : goal.returns-then-number-ne0-clause-delay_after
returns-then-number-ne0-clause-delay_after c = search delay_stays

pub returns-then-number-ne0-clause-loss_after : goal.returns-then-number-ne0-clause-loss_after
returns-then-number-ne0-clause-loss_after c = search stays

pub returns-then-number-ne0-clause-tried_after : goal.returns-then-number-ne0-clause-tried_after
returns-then-number-ne0-clause-tried_after c = search stays

pub returns-then-number-ne0-clause-off_after : goal.returns-then-number-ne0-clause-off_after
returns-then-number-ne0-clause-off_after c = search stays

pub returns-clause-value : goal.returns-clause-value
returns-clause-value c = let e = c.best_delay-d.ensures in search none_refused

pub returns-clause-delay_after : goal.returns-clause-delay_after
returns-clause-delay_after c = let e = c.best_delay-d.ensures in to_z-of_z w64 c.best_delay-d.result.delay (search rules) ∙ ap (λ (x : Delay). x.delay) e

pub returns-clause-loss_after : goal.returns-clause-loss_after
returns-clause-loss_after c = let e = c.best_delay-d.ensures in search loss_told

pub returns-clause-tried_after : goal.returns-clause-tried_after
returns-clause-tried_after c = let e = c.best_delay-d.ensures in search tried_told

pub returns-clause-off_after : goal.returns-clause-off_after
returns-clause-off_after c = let e = c.best_delay-d.ensures in search off_told
