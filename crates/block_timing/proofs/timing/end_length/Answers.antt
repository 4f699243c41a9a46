use Rattle.spec_cue.specs.block_timing.Style.{end_in}
use Rattle.spec_base.proofs.base.Laws.{calls}
use Rattle.block_timing.proofs.timing.end_length.Goals as goal

pub returns-then-kind-eq2 : goal.returns-then-kind-eq2
unfolding end_in
returns-then-kind-eq2 c = search calls depth 12

pub returns-else-kind-eq2 : goal.returns-else-kind-eq2
unfolding end_in
returns-else-kind-eq2 c = search calls depth 12
