use Rattle.map_records.proofs.CopyLaws.{placed_six}
use Rattle.map_records.proofs.flattening.numbers_at.Goals as goal

pub returns : goal.returns
returns c = search placed_six
