use Rattle.spec_parking.proofs.parking.HeadLaws.{head_made}
use Rattle.parking.proofs.reading.head_in.Goals as goal

pub returns : goal.returns
returns c = search head_made
