use Rattle.spec_sheet.specs.sheet_frames.Frames.{rate_den_of}
use borrow.Author.Rules.{rules}
use Rattle.sheet_frames.proofs.access.rate_den.Goals as goal

pub returns : goal.returns
unfolding rate_den_of
returns c = search rules
