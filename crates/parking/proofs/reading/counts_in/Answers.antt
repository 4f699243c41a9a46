use Rattle.spec_parking.proofs.parking.ReadLaws.{counts_are}
use Rattle.parking.proofs.reading.counts_in.Goals as goal

pub returns : goal.returns
returns c = search counts_are
