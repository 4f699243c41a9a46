use Rattle.spec_time.proofs.caption_stamp.Reading.{seen_comma, seen_point, seen_own}
use Rattle.caption_stamp.proofs.read.mark_in.Goals as goal

pub returns-then-kind-ne1 : goal.returns-then-kind-ne1
returns-then-kind-ne1 c = search seen_own

pub returns-then-has : goal.returns-then-has
returns-then-has c = search seen_comma

pub returns-else-has : goal.returns-else-has
returns-else-has c = search seen_point
