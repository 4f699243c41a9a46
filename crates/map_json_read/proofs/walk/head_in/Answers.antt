use Rattle.map_json_read.proofs.WalkLaws.{head_fits, head_some}
use Rattle.map_json_read.proofs.walk.head_in.Goals as goal

pub overflow_add-span : goal.overflow_add-span
overflow_add-span c = record { fits = search head_fits }

pub returns : goal.returns
returns c = search head_some
