use Rattle.spec_base.proofs.base.RefusalLaws.{left_done}
use Rattle.spec_sheet.proofs.sheet.FaultLaws.{spare_here, spare_next}
use Rattle.sheet.proofs.heads.spare_fault.Goals as goal

pub returns-then-word-ne0 : goal.returns-then-word-ne0
returns-then-word-ne0 c = search spare_here

pub loop-i-preserved : goal.loop-i-preserved
loop-i-preserved c = search spare_next

pub returns : goal.returns
returns c = search left_done
