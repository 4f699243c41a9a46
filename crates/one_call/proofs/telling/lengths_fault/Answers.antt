use Rattle.spec_base.proofs.base.Refusals.{refusals}
use Rattle.spec_runs.specs.one_call.Text.{lengths_fault}
use Rattle.one_call.proofs.telling.lengths_fault.Goals as goal

pub returns-then-text : goal.returns-then-text
unfolding lengths_fault
returns-then-text c = search refusals depth 12

pub returns-then-out-text : goal.returns-then-out-text
unfolding lengths_fault
returns-then-out-text c = search refusals depth 12

pub returns-then-places-text : goal.returns-then-places-text
unfolding lengths_fault
returns-then-places-text c = search refusals depth 12

pub returns-then-lent-lt7 : goal.returns-then-lent-lt7
unfolding lengths_fault
returns-then-lent-lt7 c = search refusals depth 12

pub returns : goal.returns
unfolding lengths_fault
returns c = search refusals depth 12
