use Rattle.spec_sheet.proofs.sheet_frames.FrameLaws.{long_is}
use Rattle.sheet_frames.proofs.access.long.Goals as goal

pub returns : goal.returns
returns c = search long_is
