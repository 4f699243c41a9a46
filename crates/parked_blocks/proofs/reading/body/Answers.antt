use Rattle.spec_parked_blocks.proofs.parked_blocks.ReadLaws.{body_is}
use Rattle.parked_blocks.proofs.reading.body.Goals as goal

pub returns : goal.returns
returns c = search body_is
