use Rattle.spec_cue.proofs.block_timing.VttLaws.{in_found, in_again, in_none}
use Rattle.block_timing.proofs.stamps.stamp_in.Goals as goal

pub returns-then-stamp_head : goal.returns-then-stamp_head
returns-then-stamp_head c = search in_found depth 12

pub loop-i-preserved : goal.loop-i-preserved
loop-i-preserved c = search in_again depth 12

pub returns : goal.returns
returns c = search in_none depth 12
