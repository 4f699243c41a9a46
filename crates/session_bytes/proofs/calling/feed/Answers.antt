use Rattle.spec_parking.proofs.session_bytes.FeedLaws.{text_refused, text_none, text_head_lem, text_is}
use Rattle.session_bytes.proofs.calling.feed.Goals as goal

pub returns-then-up-ne0 : goal.returns-then-up-ne0
returns-then-up-ne0 c = search text_refused

pub feed_text-requires : goal.feed_text-requires
feed_text-requires c = (search text_none, search text_head_lem, search text_is)
