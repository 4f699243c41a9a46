use Rattle.spec_sheet.proofs.sheet_frames.FrameLaws.{decode_is}
use Rattle.sheet_frames.proofs.access.decode_at.Goals as goal

pub returns : goal.returns
returns c = search decode_is
