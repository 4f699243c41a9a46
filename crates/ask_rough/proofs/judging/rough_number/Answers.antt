use Rattle.spec_base.proofs.base.Refusals.{refusals}
use Rattle.spec_ask.specs.ask_rough.Rough.{rough_number}
use Rattle.ask_rough.proofs.judging.rough_number.Goals as goal

pub returns-then-map_bad : goal.returns-then-map_bad
unfolding rough_number
returns-then-map_bad c = search refusals depth 12

pub returns-then-start_high-start_low : goal.returns-then-start_high-start_low
unfolding rough_number
returns-then-start_high-start_low c = search refusals depth 12

pub returns-then-end_high-end_low : goal.returns-then-end_high-end_low
unfolding rough_number
returns-then-end_high-end_low c = search refusals depth 12

pub returns : goal.returns
unfolding rough_number
returns c = search refusals depth 12
