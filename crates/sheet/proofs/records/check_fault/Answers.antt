use Rattle.spec_sheet.proofs.sheet.FaultLaws.{check_held, check_failed}
use Rattle.sheet.proofs.records.check_fault.Goals as goal

pub returns-then-block_holds : goal.returns-then-block_holds
returns-then-block_holds c = search check_held

pub returns-else-block_holds : goal.returns-else-block_holds
returns-else-block_holds c = search check_failed
