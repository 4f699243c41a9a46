use Rattle.spec_sheet.specs.sheet_frames.Frames.{timescale_of}
use borrow.Author.Rules.{rules}
use Rattle.sheet_frames.proofs.access.timescale.Goals as goal

pub returns : goal.returns
unfolding timescale_of
returns c = search rules
