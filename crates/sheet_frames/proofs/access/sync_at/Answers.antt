use Rattle.spec_sheet.proofs.sheet_frames.FrameLaws.{sync_is}
use Rattle.sheet_frames.proofs.access.sync_at.Goals as goal

pub returns : goal.returns
returns c = search sync_is
