use Rattle.spec_rows.proofs.caption_rows.WalkLaws.{line_found}
use Rattle.caption_rows.proofs.walking.line_at.Goals as goal

pub returns : goal.returns
returns c = search line_found
