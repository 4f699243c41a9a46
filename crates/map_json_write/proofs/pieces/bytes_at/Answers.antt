use Rattle.map_json_write.proofs.WrittenLaws.{bytes_written}
use Rattle.map_json_write.proofs.pieces.bytes_at.Goals as goal

pub returns : goal.returns
returns c = search bytes_written
