use Rattle.spec_parking.proofs.parking.HeadLaws.{length_in, taken_in_lem}
use Rattle.parking.proofs.taking.take_in.Goals as goal

pub refusal_in-requires : goal.refusal_in-requires
refusal_in-requires c = search length_in

pub returns : goal.returns
returns c = rw c.number-number.ensures (search taken_in_lem)
