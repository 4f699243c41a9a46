use Rattle.spec_parking.proofs.parking.StoreLaws.{keep_16, keep_0}
use Rattle.parking.proofs.storing.keep.Goals as goal

pub returns-then-out-lt9216 : goal.returns-then-out-lt9216
returns-then-out-lt9216 c = search keep_16

pub returns : goal.returns
returns c = search keep_0
