use native.Mathlib.Omega.{arith}
use Rattle.map_json_write.proofs.LayoutLaws.{segment_written}
use Rattle.map_json_write.proofs.layout.segment_at.Goals as goal

pub returns : goal.returns
returns c = (search segment_written, omega arith)
