use native.Mathlib.Omega.{arith}
use Rattle.map_json_write.proofs.LayoutLaws.{rates_written}
use Rattle.map_json_write.proofs.WrittenLaws.{three_written}
use Rattle.map_json_write.proofs.layout.rates_at.Goals as goal

pub returns : goal.returns
returns c = (search (rates_written, three_written), omega arith)
