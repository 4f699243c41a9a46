use Rattle.spec_parking.proofs.parking.ReadLaws.{row_true, row_room, room_long}
use Rattle.spec_parking.proofs.parking.TakeLaws.{take_unsealed}
use Rattle.parking.proofs.taking.take_up.Goals as goal

pub take_row-requires : goal.take_row-requires
take_row-requires c = (search row_true, search row_room, search room_long)

pub returns-else-unseal : goal.returns-else-unseal
returns-else-unseal c = search take_unsealed
