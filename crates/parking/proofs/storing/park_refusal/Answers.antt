use Rattle.spec_parking.proofs.parking.StoreLaws.{park_17, park_16, park_0}
use Rattle.parking.proofs.storing.park_refusal.Goals as goal

pub returns-then-foreign : goal.returns-then-foreign
returns-then-foreign c = search park_17

pub returns-then-lent-lt9216 : goal.returns-then-lent-lt9216
returns-then-lent-lt9216 c = search park_16

pub returns : goal.returns
returns c = search park_0
