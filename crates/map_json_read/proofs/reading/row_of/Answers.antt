use Rattle.map_json_read.proofs.PartLaws.{row_is_behind}
use Rattle.map_json_read.proofs.reading.row_of.Goals as goal

pub returns : goal.returns
returns c = search row_is_behind
