use Rattle.std.proofs.Common.{add-one, arith, rules}
use Rattle.spec_sheet.specs.checked_blocks.Block.{sum_words}
use Rattle.checked_blocks.proofs.words.sum.Goals as goal

pub loop-k-init : goal.loop-k-init
unfolding sum_words
loop-k-init c = search rules

pub loop-k-preserved : goal.loop-k-preserved
unfolding sum_words
loop-k-preserved c = rw add-one (omega arith)
