use Rattle.segmap.proofs.CopyLaws.{stored}
use Rattle.segmap.proofs.building.store.Goals as goal

pub returns : goal.returns
returns c = search stored
