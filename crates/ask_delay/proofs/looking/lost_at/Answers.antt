use Rattle.spec_ask.proofs.ask_delay.NearLaws.{sum_fits, less_fits, lost_start, lost_end, lost_grade}
use Rattle.ask_delay.proofs.looking.lost_at.Goals as goal

pub overflow_add-at : goal.overflow_add-at
overflow_add-at c = search sum_fits

pub overflow_sub-at : goal.overflow_sub-at
overflow_sub-at c = search less_fits

pub returns-in-None : goal.returns-in-None
returns-in-None c = search lost_start

pub returns-in-None-under : goal.returns-in-None-under
returns-in-None-under c = search lost_end depth 12

pub returns-in-Some-under : goal.returns-in-Some-under
returns-in-Some-under c = search lost_grade depth 14
