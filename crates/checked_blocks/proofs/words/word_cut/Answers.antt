use Rattle.spec_sheet.proofs.checked_blocks.WordLaws.{word_cut}
use native.Mathlib.Omega.{arith}
use mathlib.Core.Path.{refl}
use Rattle.checked_blocks.proofs.words.word_cut.Goals as goal

pub returns : goal.returns
returns c = word_cut _ _ _ _ _ _ refl c.get_or.ensures c.get_or-2.ensures c.get_or-3.ensures (omega (arith, c.from_le_bytes.ensures))
