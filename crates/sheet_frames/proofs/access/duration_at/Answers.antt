use Rattle.spec_sheet.proofs.sheet_frames.FrameLaws.{duration_is}
use Rattle.sheet_frames.proofs.access.duration_at.Goals as goal

pub returns : goal.returns
returns c = search duration_is
