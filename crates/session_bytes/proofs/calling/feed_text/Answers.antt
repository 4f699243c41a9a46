use Rattle.spec_parking.proofs.session_bytes.FeedLaws.{call_fed}
use Rattle.session_bytes.proofs.calling.feed_text.Goals as goal

pub returns : goal.returns
returns c = search call_fed
