use Rattle.map_json_write.proofs.LayoutLaws.{tail_written}
use Rattle.map_json_write.proofs.layout.tail_at.Goals as goal

pub returns : goal.returns
returns c = search tail_written
