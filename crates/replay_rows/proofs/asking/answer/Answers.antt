use Rattle.replay_rows.proofs.OpLaws.{op_16, op_other}
use Rattle.replay_rows.proofs.asking.answer.Goals as goal

pub returns-then-op-eq16-clause-value : goal.returns-then-op-eq16-clause-value
returns-then-op-eq16-clause-value g c = search op_16

pub returns-clause-value : goal.returns-clause-value
returns-clause-value g c = search op_other
