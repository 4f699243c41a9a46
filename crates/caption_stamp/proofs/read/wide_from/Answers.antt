use Rattle.spec_base.proofs.base.Laws.{chain, calls}
use Rattle.spec_time.specs.caption_stamp.Read.{wide_from}
use Rattle.caption_stamp.proofs.read.wide_from.Goals as goal

pub returns-then-s-lt2 : goal.returns-then-s-lt2
unfolding wide_from
returns-then-s-lt2 c = search chain depth 12

pub returns : goal.returns
unfolding wide_from
returns c = search calls depth 12
