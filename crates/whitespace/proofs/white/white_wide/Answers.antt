use Rattle.spec_text.proofs.whitespace.Laws.{white_some, white_none}
use Rattle.whitespace.proofs.white.white_wide.Goals as goal

pub returns-then-is_white : goal.returns-then-is_white
returns-then-is_white c = search white_some

pub returns-else-is_white : goal.returns-else-is_white
returns-else-is_white c = search white_none
