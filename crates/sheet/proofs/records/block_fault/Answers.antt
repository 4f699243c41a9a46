use Rattle.std.proofs.lemmas.Result.{err_from_is_err_and}
use Rattle.refusals.proofs.Laws.{refused_not_0}
use Rattle.spec_sheet.proofs.sheet.FaultLaws.{block_check, block_records}
use Rattle.spec_sheet.proofs.sheet_frames.FrameLaws.{told_as}
use borrow.Author.Rules.{rules}
use Rattle.sheet.proofs.records.block_fault.Goals as goal

pub returns-in_err-check_fault : goal.returns-in_err-check_fault
returns-in_err-check_fault c = let p = err_from_is_err_and c.from_residual.result c.from_residual.ensures.1 in rw (p.1, p.2) (search (block_check, refused_not_0, c.in_err-check_fault.ensures))

pub records_fault-requires : goal.records_fault-requires
records_fault-requires c = (search told_as, search rules, search rules)

pub returns-then-long : goal.returns-then-long
returns-then-long c = search (block_records, told_as, c.in_ok-check_fault.ensures)

pub records_fault-requires-else-long : goal.records_fault-requires-else-long
records_fault-requires-else-long c = (search told_as, search rules, search rules)

pub returns-else-long : goal.returns-else-long
returns-else-long c = search (block_records, told_as, c.in_ok-check_fault.ensures)
