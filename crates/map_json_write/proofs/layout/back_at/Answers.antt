use native.Mathlib.Omega.{arith}
use Rattle.map_json_write.proofs.LayoutLaws.{back_written}
use Rattle.map_json_write.proofs.WrittenLaws.{three_written}
use Rattle.map_json_write.proofs.layout.back_at.Goals as goal

pub returns : goal.returns
returns c = (search (back_written, three_written), omega arith)
