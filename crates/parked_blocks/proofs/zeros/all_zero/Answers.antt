use Rattle.spec_parked_blocks.proofs.parked_blocks.ReadLaws.{zero_more, zero_all}
use Rattle.parked_blocks.proofs.zeros.all_zero.Goals as goal

pub loop-b-preserved : goal.loop-b-preserved
loop-b-preserved c = search zero_more

pub returns : goal.returns
returns c = search zero_all
