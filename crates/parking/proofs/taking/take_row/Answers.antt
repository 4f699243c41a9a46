use Rattle.spec_parking.proofs.parking.ReadLaws.{whole_shows, whole_rest}
use Rattle.spec_parking.proofs.parking.TakeLaws.{take_17, take_0, take_27}
use borrow.Author.Rules.{rules}
use Rattle.parking.proofs.taking.take_row.Goals as goal

pub is_parked-requires : goal.is_parked-requires
is_parked-requires c = (search rules, search whole_shows, search whole_rest)

pub returns-then-foreign : goal.returns-then-foreign
returns-then-foreign c = search take_17

pub returns-else-foreign : goal.returns-else-foreign
returns-else-foreign c = search take_0

pub returns-else-is_parked : goal.returns-else-is_parked
returns-else-is_parked c = search take_27
