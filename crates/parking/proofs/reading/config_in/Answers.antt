use Rattle.spec_parking.proofs.parking.ReadLaws.{config_is}
use Rattle.parking.proofs.reading.config_in.Goals as goal

pub returns : goal.returns
returns c = search config_is
