use Rattle.spec_sheet.proofs.sheet_frames.FrameLaws.{duration_long, duration_short}
use Rattle.sheet_frames.proofs.access.duration_by.Goals as goal

pub returns-then-long : goal.returns-then-long
returns-then-long c = search duration_long

pub returns-else-long : goal.returns-else-long
returns-else-long c = rw c.from.ensures (search duration_short)
