use Rattle.spec_rows.proofs.caption_rows.BlockLaws.{block_found, block_none}
use Rattle.caption_rows.proofs.closed.read_block.Goals as goal

pub returns-in-Some : goal.returns-in-Some
returns-in-Some c = search block_found

pub returns : goal.returns
returns c = search block_none
