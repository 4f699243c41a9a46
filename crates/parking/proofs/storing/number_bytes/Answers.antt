use Rattle.spec_parking.proofs.parking.StoreLaws.{number_bytes}
use Rattle.parking.proofs.storing.number_bytes.Goals as goal

pub returns : goal.returns
returns c = search number_bytes
