use Rattle.spec_parked_blocks.proofs.parked_blocks.WriteLaws.{seal_row}
use Rattle.parked_blocks.proofs.writing.seal.Goals as goal

pub returns : goal.returns
returns c = search seal_row
