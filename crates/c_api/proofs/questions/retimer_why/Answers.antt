use Rattle.c_api.proofs.Reason.{number_left, fate_left, place_left, start_left, end_left}
use Rattle.c_api.proofs.questions.retimer_why.Goals as goal

pub returns-clause-value : goal.returns-clause-value
returns-clause-value c = search number_left

pub returns-clause-fate_after : goal.returns-clause-fate_after
returns-clause-fate_after c = search fate_left

pub returns-clause-place_after : goal.returns-clause-place_after
returns-clause-place_after c = search place_left

pub returns-clause-start_cut_after : goal.returns-clause-start_cut_after
returns-clause-start_cut_after c = search start_left

pub returns-clause-end_cut_after : goal.returns-clause-end_cut_after
returns-clause-end_cut_after c = search end_left
