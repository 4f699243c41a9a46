use Rattle.spec_base.proofs.base.Refusals.{refusals, stops_other, goes_equal}
use Rattle.spec_ask.specs.ask_delay.Loss.{delay_number}
use Rattle.ask_delay.proofs.finding.delay_number.Goals as goal

pub returns-then-timescale_bad : goal.returns-then-timescale_bad
unfolding delay_number
returns-then-timescale_bad c = search refusals depth 16

pub returns-then-map_bad : goal.returns-then-map_bad
unfolding delay_number
returns-then-map_bad c = search refusals depth 16

pub returns-then-budget-lt1 : goal.returns-then-budget-lt1
unfolding delay_number
returns-then-budget-lt1 c = search refusals depth 16

pub returns-then-captions-gt-MOST_CAPTIONS : goal.returns-then-captions-gt-MOST_CAPTIONS
unfolding delay_number
returns-then-captions-gt-MOST_CAPTIONS c = search refusals depth 16

pub returns-then-kind_bad : goal.returns-then-kind_bad
unfolding delay_number
returns-then-kind_bad c = search refusals depth 16

pub returns-then-captions-ne0 : goal.returns-then-captions-ne0
unfolding delay_number
returns-then-captions-ne0 c = search (refusals, stops_other) depth 16

pub returns-then-any_late : goal.returns-then-any_late
unfolding delay_number
returns-then-any_late c = search (refusals, goes_equal) depth 16

pub returns : goal.returns
unfolding delay_number
returns c = search (refusals, goes_equal) depth 16
