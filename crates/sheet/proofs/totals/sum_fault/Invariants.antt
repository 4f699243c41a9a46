use Rattle.spec_sheet.proofs.sheet.TotalLaws.{Left}
use Rattle.sheet.proofs.totals.sum_fault.Given as goal

abbrev pub invariant-loop-i : goal.invariant-loop-i
invariant-loop-i l = Left l.s l.left l.i
