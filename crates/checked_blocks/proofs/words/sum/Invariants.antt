use Rattle.std.proofs.Common.{◌≡◌, ◌%◌, ◌^◌}
use Rattle.spec_sheet.specs.checked_blocks.Block.{sum_words}
use Rattle.checked_blocks.proofs.words.sum.Given as goal

abbrev pub invariant-loop-k : goal.invariant-loop-k
invariant-loop-k l = l.total ≡ sum_words l.s l.i l.k % 2 ^ 32
