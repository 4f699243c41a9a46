use native.Mathlib.Omega.{arith}
use Rattle.map_json_write.proofs.LayoutLaws.{list_none}
use Rattle.map_json_write.proofs.layout.list_at.Goals as goal

pub returns-then-map-lt6 : goal.returns-then-map-lt6
returns-then-map-lt6 c = (search list_none, omega arith)
