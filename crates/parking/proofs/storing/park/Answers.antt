use Rattle.spec_parking.proofs.parking.StoreLaws.{park_refused, park_passed, park_done}
use Rattle.parking.proofs.storing.park.Goals as goal

pub returns-then-refused-ne0 : goal.returns-then-refused-ne0
returns-then-refused-ne0 c = search park_refused

pub store-requires : goal.store-requires
store-requires c = (park_passed _ c.args.out.now _ c.park_refusal-refused.ensures c.if-refused-ne0.false).1

pub returns : goal.returns
returns c = search park_done
