use Rattle.spec_sheet.proofs.checked_blocks.WordLaws.{word_past, word_at_lem}
use Rattle.checked_blocks.proofs.words.word.Goals as goal

pub returns-then-whole-i : goal.returns-then-whole-i
returns-then-whole-i c = search word_past

pub returns-else-whole-i : goal.returns-else-whole-i
returns-else-whole-i c = search word_at_lem
