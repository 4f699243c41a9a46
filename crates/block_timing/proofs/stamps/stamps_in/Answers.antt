use borrow.Author.Tests.{ne_eqb}
use Rattle.spec_cue.specs.block_timing.Style.{stamps_in}
use Rattle.spec_base.proofs.base.Laws.{calls}
use Rattle.block_timing.proofs.stamps.stamps_in.Goals as goal

pub returns-then-kind-eq2 : goal.returns-then-kind-eq2
unfolding stamps_in
returns-then-kind-eq2 c = search calls depth 12

pub returns-else-kind-eq2 : goal.returns-else-kind-eq2
unfolding stamps_in
returns-else-kind-eq2 c = rw (ne_eqb c.args.kind 2 c.if-kind-eq2.false)
