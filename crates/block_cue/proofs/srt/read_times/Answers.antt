use Rattle.spec_cue.proofs.block_cue.BlockLaws.{read_1, read_2, read_3}
use Rattle.block_cue.proofs.srt.read_times.Goals as goal

pub returns-in_err-from : goal.returns-in_err-from
returns-in_err-from c = rw c.from_residual.ensures (read_1 _ _ _ c.in_err-from.ensures)

pub returns-in_err-to : goal.returns-in_err-to
returns-in_err-to c = rw c.from_residual-in_err-to.ensures (read_2 _ _ _ _ c.in_ok-from.ensures c.in_err-to.ensures)

pub returns : goal.returns
returns c = read_3 _ _ _ _ _ c.in_ok-from.ensures c.in_ok-to.ensures
