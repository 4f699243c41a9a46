use Rattle.spec_parked_blocks.proofs.parked_blocks.WriteLaws.{sum_none, sum_more}
use Rattle.parked_blocks.proofs.writing.sum.Goals as goal

pub loop-k-init : goal.loop-k-init
loop-k-init c = sum_none _

pub loop-k-preserved : goal.loop-k-preserved
loop-k-preserved c = search sum_more
