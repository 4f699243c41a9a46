use Rattle.spec_parking.proofs.parking.ReadLaws.{columns_are}
use Rattle.parking.proofs.reading.columns_in.Goals as goal

pub returns : goal.returns
returns c = search columns_are
