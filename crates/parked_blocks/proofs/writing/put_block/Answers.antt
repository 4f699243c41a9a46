use Rattle.spec_parked_blocks.proofs.parked_blocks.WriteLaws.{end_small, end_lies, block_made}
use Rattle.parked_blocks.proofs.writing.put_block.Goals as goal

pub put_zeros-requires : goal.put_zeros-requires
put_zeros-requires c = (search end_small, search end_lies)

pub returns : goal.returns
returns c = search block_made
