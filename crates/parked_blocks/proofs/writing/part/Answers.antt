use Rattle.spec_parked_blocks.proofs.parked_blocks.WriteLaws.{part_is}
use Rattle.parked_blocks.proofs.writing.part.Goals as goal

pub returns : goal.returns
returns c = search part_is
