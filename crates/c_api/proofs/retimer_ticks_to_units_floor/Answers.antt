use mathlib.Core.Path.{ap, ◌∙◌}
use Rattle.spec_time.specs.declared.caption_time.Converted.{Converted}
use Rattle.caption_time.proofs.AnswerLaws.{value_told}
use Rattle.c_api.proofs.retimer_ticks_to_units_floor.Goals as goal

pub returns : goal.returns
returns c = c.unwrap_or.ensures ∙ value_told c.ticks_to_units_floor.result ∙ ap (λ (x : Converted). x.value) c.ticks_to_units_floor.ensures
