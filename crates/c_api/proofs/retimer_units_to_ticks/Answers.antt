use mathlib.Core.Path.{ap, ◌∙◌}
use Rattle.spec_time.specs.declared.caption_time.Converted.{Converted}
use Rattle.caption_time.proofs.AnswerLaws.{value_told}
use Rattle.c_api.proofs.retimer_units_to_ticks.Goals as goal

pub returns : goal.returns
returns c = c.unwrap_or.ensures ∙ value_told c.units_to_ticks.result ∙ ap (λ (x : Converted). x.value) c.units_to_ticks.ensures
