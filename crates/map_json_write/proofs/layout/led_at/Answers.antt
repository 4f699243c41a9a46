use native.Mathlib.Omega.{arith}
use Rattle.map_json_write.proofs.WrittenLaws.{written_then}
use Rattle.map_json_write.proofs.layout.led_at.Goals as goal

pub returns : goal.returns
returns c = (search written_then, omega arith)
