use Rattle.spec_parking.proofs.parking.StoreLaws.{live_head}
use Rattle.parking.proofs.storing.live_words.Goals as goal

pub returns : goal.returns
returns c = search live_head
