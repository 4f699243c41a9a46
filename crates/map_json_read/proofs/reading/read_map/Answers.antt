use Rattle.map_json_read.proofs.GiveLaws.{read_23, read_refused, room_whole, map_room, path_whole, path_room, read_done}
use Rattle.refusals.proofs.Laws.{refused_not_0}
use Rattle.map_json_read.proofs.reading.read_map.Goals as goal

pub returns-in_default : goal.returns-in_default
returns-in_default c = search (read_23, c.in_default.ensures)

pub returns-in-Err : goal.returns-in-Err
returns-in-Err c = search (read_refused, refused_not_0, c.in-Some.ensures, c.in-Err.ensures)

pub give-requires : goal.give-requires
give-requires c = (search (room_whole, c.in-Some.ensures, c.in_default-said_number.ensures), search (map_room, c.in-Some.ensures, c.in_default-said_number.ensures), search (path_whole, c.in-Some.ensures, c.in_default-said_number.ensures), search (path_room, c.in-Some.ensures, c.in_default-said_number.ensures))

pub returns : goal.returns
returns c = search (read_done, c.in-Some.ensures, c.in_default-said_number.ensures)
