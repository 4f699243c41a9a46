use Rattle.spec_parking.proofs.parking.TakeLaws.{refused_is}
use Rattle.parking.proofs.taking.refused.Goals as goal

pub returns : goal.returns
returns c = rw c.from.ensures (search refused_is)
