use Rattle.spec_parking.proofs.parking.StoreLaws.{ended_head}
use Rattle.parking.proofs.storing.ended_words.Goals as goal

pub returns : goal.returns
returns c = search ended_head
