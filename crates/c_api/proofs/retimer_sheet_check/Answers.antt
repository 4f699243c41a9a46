use mathlib.Core.Path.{ap, ◌∙◌}
use Rattle.spec_sheet.specs.sheet.Sheet.{number_of}
use Rattle.sheet.proofs.AnswerLaws.{told_answer}
use Rattle.c_api.proofs.retimer_sheet_check.Goals as goal

pub returns-clause-value : goal.returns-clause-value
returns-clause-value c = c.number.ensures ∙ told_answer _ ∙ ap number_of c.check.ensures.value

pub returns-clause-work_after : goal.returns-clause-work_after
returns-clause-work_after c = c.check.ensures.work_after
