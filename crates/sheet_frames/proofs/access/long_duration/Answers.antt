use Rattle.spec_sheet.proofs.sheet_frames.FrameLaws.{duration_two}
use Rattle.sheet_frames.proofs.access.long_duration.Goals as goal

pub returns : goal.returns
returns c = rw (c.from-low.ensures, c.from.ensures) (search duration_two)
