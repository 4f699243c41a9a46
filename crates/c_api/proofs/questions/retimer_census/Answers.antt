use Rattle.c_api.proofs.Counts.{count_number, shifted_left, clipped_left, dropped_left}
use Rattle.c_api.proofs.questions.retimer_census.Goals as goal

pub returns-clause-value : goal.returns-clause-value
returns-clause-value c = search count_number

pub returns-clause-shifted_after : goal.returns-clause-shifted_after
returns-clause-shifted_after c = search shifted_left

pub returns-clause-clipped_after : goal.returns-clause-clipped_after
returns-clause-clipped_after c = search clipped_left

pub returns-clause-dropped_after : goal.returns-clause-dropped_after
returns-clause-dropped_after c = search dropped_left
