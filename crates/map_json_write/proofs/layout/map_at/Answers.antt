use Rattle.map_json_write.proofs.LayoutLaws.{map_written}
use Rattle.map_json_write.proofs.layout.map_at.Goals as goal

pub returns : goal.returns
returns c = search map_written
