use Rattle.spec_parked_blocks.proofs.parked_blocks.WriteLaws.{first_made}
use Rattle.parked_blocks.proofs.writing.put_first.Goals as goal

pub returns : goal.returns
returns c = search first_made
