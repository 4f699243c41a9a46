use Rattle.spec_base.proofs.base.Refusals.{refusals}
use Rattle.spec_ask.specs.ask_reason.Reason.{why_number}
use Rattle.ask_reason.proofs.telling.why_number.Goals as goal

pub returns-then-timescale_bad : goal.returns-then-timescale_bad
unfolding why_number
returns-then-timescale_bad c = search refusals depth 14

pub returns-then-map_bad : goal.returns-then-map_bad
unfolding why_number
returns-then-map_bad c = search refusals depth 14

pub returns-then-kind_bad : goal.returns-then-kind_bad
unfolding why_number
returns-then-kind_bad c = search refusals depth 14

pub returns-then-start-gt-MOST_UNITS : goal.returns-then-start-gt-MOST_UNITS
unfolding why_number
returns-then-start-gt-MOST_UNITS c = search refusals depth 14

pub returns-then-stop-gt-MOST_UNITS : goal.returns-then-stop-gt-MOST_UNITS
unfolding why_number
returns-then-stop-gt-MOST_UNITS c = search refusals depth 14

pub returns-then-places-map : goal.returns-then-places-map
unfolding why_number
returns-then-places-map c = search refusals depth 14

pub returns : goal.returns
unfolding why_number
returns c = search refusals depth 14
