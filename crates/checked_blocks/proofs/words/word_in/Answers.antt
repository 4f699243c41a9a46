use native.Mathlib.Omega.{arith}
use Rattle.spec_sheet.specs.checked_blocks.Block.{word_at}
use Rattle.checked_blocks.proofs.words.word_in.Goals as goal

pub returns : goal.returns
unfolding word_at
returns c = omega (arith, c.from_le_bytes.ensures)
