use Rattle.std.proofs.Common.{rules, refl}
use Rattle.spec_parked_blocks.proofs.parked_blocks.ReadLaws.{room_none, room_more, room_next}
use Rattle.parked_blocks.proofs.reading.copy_room.Goals as goal

pub loop-n-init : goal.loop-n-init
loop-n-init c = (refl, search room_none, refl)

pub loop-n-preserved : goal.loop-n-preserved
loop-n-preserved c = (search room_next, search room_more, search rules)
