use Rattle.spec_text.proofs.utf8.Laws.{width_one}
use Rattle.spec_text.specs.utf8.Utf8.{char_width}
use Rattle.utf8.proofs.utf8.char_width.Goals as goal

pub returns-then-a-lt128 : goal.returns-then-a-lt128
returns-then-a-lt128 c = search width_one

pub returns-else-a-lt128 : goal.returns-else-a-lt128
unfolding char_width
returns-else-a-lt128 c = cc
