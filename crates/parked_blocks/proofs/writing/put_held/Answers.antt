use Rattle.std.proofs.Common.{rules, refl, arith}
use Rattle.spec_parked_blocks.proofs.parked_blocks.WriteLaws.{part_small, held_none, held_more}
use Rattle.parked_blocks.proofs.writing.put_held.Goals as goal

pub loop-n-init : goal.loop-n-init
loop-n-init c = (search held_none, refl)

pub block_at-requires : goal.block_at-requires
block_at-requires c = (omega arith, search part_small)

pub loop-n-preserved : goal.loop-n-preserved
loop-n-preserved c = (search held_more, search rules)
