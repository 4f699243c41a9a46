use Rattle.spec_parking.proofs.parking.ReadLaws.{held_is}
use Rattle.parking.proofs.reading.held_in.Goals as goal

pub returns : goal.returns
returns c = search held_is
