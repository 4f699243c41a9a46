use native.Mathlib.Omega.{arith}
use Rattle.map_json_write.proofs.WrittenLaws.{named_written}
use Rattle.map_json_write.proofs.pieces.named_at.Goals as goal

pub returns : goal.returns
returns c = (search named_written, omega arith)
