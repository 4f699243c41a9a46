use Rattle.c_api.proofs.Mapped.{number_made, zero_made, timescale_made, count_made, stays}
use Rattle.c_api.proofs.maps.retimer_map.Goals as goal

pub returns-then-number-ne0-clause-value : goal.returns-then-number-ne0-clause-value
returns-then-number-ne0-clause-value c = search number_made

pub returns-then-number-ne0-clause-timescale_after : goal.returns-then-number-ne0-clause-timescale_after
returns-then-number-ne0-clause-timescale_after c = search stays

pub returns-then-number-ne0-clause-count_after : goal.returns-then-number-ne0-clause-count_after
returns-then-number-ne0-clause-count_after c = search stays

pub returns-clause-value : goal.returns-clause-value
returns-clause-value c = search zero_made

pub returns-clause-timescale_after : goal.returns-clause-timescale_after
returns-clause-timescale_after c = search timescale_made

pub returns-clause-count_after : goal.returns-clause-count_after
returns-clause-count_after c = search count_made
