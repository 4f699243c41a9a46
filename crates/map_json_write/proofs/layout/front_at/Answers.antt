use native.Mathlib.Omega.{arith}
use Rattle.map_json_write.proofs.LayoutLaws.{front_written}
use Rattle.map_json_write.proofs.WrittenLaws.{three_written}
use Rattle.map_json_write.proofs.layout.front_at.Goals as goal

pub returns : goal.returns
returns c = (search (front_written, three_written), omega arith)
