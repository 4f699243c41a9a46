use Rattle.spec_base.proofs.base.PutLaws.{tail_back}
use Rattle.parked_blocks.proofs.writing.block_at.Goals as goal

pub returns : goal.returns
returns c = search tail_back
