use Rattle.spec_cue.proofs.block_timing.PlaceLaws.{after_found}
use Rattle.block_timing.proofs.timing.after_arrow.Goals as goal

pub returns : goal.returns
returns c = search after_found
