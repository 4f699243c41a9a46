use native.Mathlib.Omega.{arith}
use Rattle.std.proofs.lemmas.Grind.{common_steps}
use Rattle.spec_sheet.proofs.checked_blocks.WordLaws.{block_missing, block_other, block_checked}
use Rattle.checked_blocks.proofs.words.block_holds.Goals as goal

pub returns-then-word_in-b : goal.returns-then-word_in-b
returns-then-word_in-b c = grind (arith, common_steps, block_checked)

pub returns-else-word_in-b : goal.returns-else-word_in-b
returns-else-word_in-b c = grind (arith, common_steps, block_missing, block_other)
