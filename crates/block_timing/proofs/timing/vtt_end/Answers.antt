use Rattle.spec_cue.specs.block_timing.Style.{vtt_end}
use Rattle.block_timing.proofs.timing.vtt_end.Goals as goal

pub returns : goal.returns
unfolding vtt_end
returns c = cc
