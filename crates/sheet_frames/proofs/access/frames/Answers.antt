use Rattle.spec_sheet.specs.sheet_frames.Frames.{frames_of}
use borrow.Author.Rules.{rules}
use Rattle.sheet_frames.proofs.access.frames.Goals as goal

pub returns : goal.returns
unfolding frames_of
returns c = search rules
