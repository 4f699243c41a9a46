use Rattle.spec_base.proofs.base.Refusals.{refusals}
use Rattle.spec_ask.specs.ask_census.Census.{census_number}
use Rattle.ask_census.proofs.counting.census_number.Goals as goal

pub returns-then-timescale_bad : goal.returns-then-timescale_bad
unfolding census_number
returns-then-timescale_bad c = search refusals depth 12

pub returns-then-map_bad : goal.returns-then-map_bad
unfolding census_number
returns-then-map_bad c = search refusals depth 12

pub returns-then-kind_bad : goal.returns-then-kind_bad
unfolding census_number
returns-then-kind_bad c = search refusals depth 12

pub returns-then-length-gt-MOST_STARTS : goal.returns-then-length-gt-MOST_STARTS
unfolding census_number
returns-then-length-gt-MOST_STARTS c = search refusals depth 12

pub returns-then-count-gt-MOST_STARTS : goal.returns-then-count-gt-MOST_STARTS
unfolding census_number
returns-then-count-gt-MOST_STARTS c = search refusals depth 12

pub returns-then-ascends : goal.returns-then-ascends
unfolding census_number
returns-then-ascends c = search refusals depth 12

pub returns : goal.returns
unfolding census_number
returns c = search refusals depth 12
