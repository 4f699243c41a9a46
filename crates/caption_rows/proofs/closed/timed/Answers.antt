use Rattle.spec_rows.proofs.caption_rows.BlockLaws.{timed_1, timed_2, timed_3}
use Rattle.caption_rows.proofs.closed.timed.Goals as goal

pub returns-in_default : goal.returns-in_default
returns-in_default c = search timed_1

pub returns-in_default-read_time : goal.returns-in_default-read_time
returns-in_default-read_time c = search timed_2

pub returns : goal.returns
returns c = search timed_3
