use native.Mathlib.Omega.{arith}
use Rattle.map_json_write.proofs.LayoutLaws.{path_written}
use Rattle.map_json_write.proofs.layout.path_at.Goals as goal

pub returns : goal.returns
returns c = (search path_written, omega arith)
