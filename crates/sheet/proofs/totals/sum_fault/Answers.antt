use Rattle.spec_sheet.proofs.sheet.TotalLaws.{total_start, total_over, total_next, total_done}
use Rattle.sheet.proofs.totals.sum_fault.Goals as goal

pub loop-i-init : goal.loop-i-init
loop-i-init c = total_start _

pub returns-then-left-d : goal.returns-then-left-d
returns-then-left-d c = search total_over

pub loop-i-preserved : goal.loop-i-preserved
loop-i-preserved c = search total_next

pub returns : goal.returns
returns c = search total_done
