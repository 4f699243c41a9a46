use Rattle.std.proofs.lemmas.Result.{err_from_is_err_and}
use Rattle.refusals.proofs.Laws.{refused_not_0}
use borrow.Author.Rules.{rules}
use Rattle.spec_base.proofs.base.RefusalLaws.{left_here, left_done}
use Rattle.spec_sheet.proofs.sheet.FaultLaws.{left_pass, record_at, records_start}
use Rattle.sheet.proofs.RecordLaws.{record_starts}
use Rattle.sheet.proofs.records.records_fault.Goals as goal

pub loop-i-init : goal.loop-i-init
loop-i-init g c = search records_start

pub record_fault-requires : goal.record_fault-requires
record_fault-requires g c = (search rules, search record_at, search record_starts)

pub returns-in_err-record_fault : goal.returns-in_err-record_fault
returns-in_err-record_fault g c = let p = err_from_is_err_and c.from_residual.result c.from_residual.ensures.1 in rw (p.1, p.2) (search (left_here, refused_not_0, c.in_err-record_fault.ensures))

pub loop-i-preserved : goal.loop-i-preserved
loop-i-preserved g c = search (left_pass, c.in_ok-record_fault.ensures)

pub returns : goal.returns
returns g c = search left_done
