use mathlib.Core.Path.{refl}
use Rattle.map_json_read.proofs.GiveLaws.{give_all}
use Rattle.map_json_read.proofs.reading.give.Goals as goal

pub returns : goal.returns
returns c = give_all c.args.p _ c.args.room.now c.args.map.now _ c.args.said.now c.args.path.now _ c.requires.0 c.requires.2 refl c.copy_from_slice.ensures.after c.copy_from_slice-2.ensures.after
