use Rattle.spec_rows.proofs.caption_rows.WalkLaws.{between_found}
use Rattle.caption_rows.proofs.walking.between.Goals as goal

pub returns : goal.returns
returns c = search between_found
