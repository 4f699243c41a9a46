use Rattle.spec_base.proofs.base.Laws.{chain, calls}
use Rattle.spec_time.specs.caption_stamp.Read.{wide_by}
use Rattle.caption_stamp.proofs.read.wide_by.Goals as goal

pub returns-then-s-n : goal.returns-then-s-n
unfolding wide_by
returns-then-s-n c = search calls depth 12

pub returns : goal.returns
unfolding wide_by
returns c = search chain depth 12
