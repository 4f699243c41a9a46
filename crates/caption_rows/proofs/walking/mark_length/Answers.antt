use Rattle.spec_rows.proofs.caption_rows.TurnLaws.{mark_yes, mark_no}
use Rattle.caption_rows.proofs.walking.mark_length.Goals as goal

pub returns-then-starts_with : goal.returns-then-starts_with
returns-then-starts_with c = search mark_yes

pub returns-else-starts_with : goal.returns-else-starts_with
returns-else-starts_with c = search mark_no
