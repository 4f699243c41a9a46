use Rattle.spec_sheet.proofs.sheet_frames.FrameLaws.{word_long, word_short}
use borrow.Author.Rules.{rules}
use Rattle.sheet_frames.proofs.access.record_word.Goals as goal

pub returns-then-long : goal.returns-then-long
returns-then-long c = (search word_long, search rules)

pub returns-else-long : goal.returns-else-long
returns-else-long c = (search word_short, search rules)
