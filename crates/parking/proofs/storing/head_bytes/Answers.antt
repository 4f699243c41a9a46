use Rattle.spec_parking.proofs.parking.StoreLaws.{head_bytes_lem}
use Rattle.parking.proofs.storing.head_bytes.Goals as goal

pub returns : goal.returns
returns c = search head_bytes_lem
