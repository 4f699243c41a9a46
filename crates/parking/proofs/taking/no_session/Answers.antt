use Rattle.spec_parking.proofs.parking.TakeLaws.{none_is}
use Rattle.parking.proofs.taking.no_session.Goals as goal

pub returns : goal.returns
returns c = search none_is
