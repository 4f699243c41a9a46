use Rattle.spec_parking.proofs.session_bytes.FeedLaws.{text_27, text_17, text_0}
use Rattle.session_bytes.proofs.calling.text_in.Goals as goal

pub returns-then-up-ne0 : goal.returns-then-up-ne0
returns-then-up-ne0 c = search text_27

pub returns-then-n-gt-MOST_HELD : goal.returns-then-n-gt-MOST_HELD
returns-then-n-gt-MOST_HELD c = search text_17

pub returns : goal.returns
returns c = search text_0
