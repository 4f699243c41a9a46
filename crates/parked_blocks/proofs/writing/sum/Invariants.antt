use Rattle.std.proofs.Common.{◌≡◌, ◌%◌, ◌^◌}
use Rattle.spec_sheet.specs.checked_blocks.Block.{sum_words}
use Rattle.parked_blocks.proofs.writing.sum.Given as goal

abbrev pub invariant-loop-k : goal.invariant-loop-k
invariant-loop-k l = l.total ≡ sum_words l.s 0 l.k % 2 ^ 32
