use Rattle.spec_parked_blocks.proofs.parked_blocks.WriteLaws.{sixteen}
use Rattle.parked_blocks.proofs.writing.words_bytes.Goals as goal

pub returns : goal.returns
returns c = search sixteen
