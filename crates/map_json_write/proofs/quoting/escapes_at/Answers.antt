use native.Mathlib.Omega.{arith}
use Rattle.map_json_write.proofs.EscapeLaws.{all_start, all_again, all_end}
use Rattle.map_json_write.proofs.quoting.escapes_at.Goals as goal

pub loop-b-init : goal.loop-b-init
loop-b-init c = (omega arith, search all_start)

pub loop-b-preserved : goal.loop-b-preserved
loop-b-preserved c = (omega arith, search all_again)

pub returns : goal.returns
returns c = (search all_end, omega arith)
