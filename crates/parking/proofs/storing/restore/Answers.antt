use Rattle.spec_parking.proofs.parking.HeadLaws.{restored_made}
use Rattle.parking.proofs.storing.restore.Goals as goal

pub returns : goal.returns
returns c = search restored_made
