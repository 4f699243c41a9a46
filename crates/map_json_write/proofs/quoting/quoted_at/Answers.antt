use native.Mathlib.Omega.{arith}
use Rattle.map_json_write.proofs.EscapeLaws.{quoted_written}
use Rattle.map_json_write.proofs.quoting.quoted_at.Goals as goal

pub returns : goal.returns
returns c = (search quoted_written, omega arith)
