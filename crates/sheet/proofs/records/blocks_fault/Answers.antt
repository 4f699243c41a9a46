use Rattle.std.proofs.lemmas.Result.{err_from_is_err_and}
use Rattle.refusals.proofs.Laws.{refused_not_0}
use Rattle.spec_base.proofs.base.RefusalLaws.{left_here, left_done}
use Rattle.spec_sheet.proofs.sheet.FaultLaws.{left_pass, blocks_start}
use Rattle.sheet.proofs.records.blocks_fault.Goals as goal

pub loop-b-init : goal.loop-b-init
loop-b-init c = search blocks_start

pub returns-in_err-block_fault : goal.returns-in_err-block_fault
returns-in_err-block_fault c = let p = err_from_is_err_and c.from_residual.result c.from_residual.ensures.1 in rw (p.1, p.2) (search (left_here, refused_not_0, c.in_err-block_fault.ensures))

pub loop-b-preserved : goal.loop-b-preserved
loop-b-preserved c = search (left_pass, c.in_ok-block_fault.ensures)

pub returns : goal.returns
returns c = search left_done
