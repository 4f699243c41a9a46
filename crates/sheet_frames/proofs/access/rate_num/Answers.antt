use Rattle.spec_sheet.specs.sheet_frames.Frames.{rate_num_of}
use borrow.Author.Rules.{rules}
use Rattle.sheet_frames.proofs.access.rate_num.Goals as goal

pub returns : goal.returns
unfolding rate_num_of
returns c = search rules
