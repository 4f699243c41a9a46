use Rattle.spec_ask.proofs.ask_delay.PaintLaws.{first_room_lem, second_room, painted_by}
use Rattle.ask_delay.proofs.painting.paint_one.Goals as goal

pub fill-requires : goal.fill-requires
fill-requires c = search first_room_lem

pub fill-requires-2 : goal.fill-requires-2
fill-requires-2 c = search second_room depth 12

pub returns : goal.returns
returns c = search painted_by depth 16
