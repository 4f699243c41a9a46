use Rattle.std.proofs.lemmas.Result.{err_from_is_err_and}
use Rattle.refusals.proofs.Laws.{refused_not_0}
use Rattle.spec_sheet.proofs.sheet.FaultLaws.{fault_answer, fault_work, once_answer, once_work, total_answer, sound_answer}
use Rattle.spec_sheet.proofs.sheet.SheetLaws.{frames_few}
use Rattle.sheet.proofs.answer.check.Goals as goal

pub returns-in_err-fault-clause-value : goal.returns-in_err-fault-clause-value
returns-in_err-fault-clause-value c = let p = err_from_is_err_and c.from_residual.result c.from_residual.ensures.1 in rw (p.1, p.2) (search (fault_answer, refused_not_0, c.in_err-fault.ensures))

pub returns-in_err-fault-clause-work_after : goal.returns-in_err-fault-clause-work_after
returns-in_err-fault-clause-work_after c = search (fault_work, refused_not_0, c.in_err-fault.ensures)

pub returns-in_err-once_fault-clause-value : goal.returns-in_err-once_fault-clause-value
returns-in_err-once_fault-clause-value c = let p = err_from_is_err_and c.from_residual-in_err-once_fault.result c.from_residual-in_err-once_fault.ensures.1 in rw (p.1, p.2) (search (once_answer, refused_not_0, c.in_ok-fault.ensures, c.in_err-once_fault.ensures.value))

pub returns-in_err-once_fault-clause-work_after : goal.returns-in_err-once_fault-clause-work_after
returns-in_err-once_fault-clause-work_after c = search (once_work, c.in_ok-fault.ensures)

pub total_fault-requires : goal.total_fault-requires
total_fault-requires c = search (frames_few, c.in_ok-fault.ensures)

pub returns-in_err-total_fault-clause-value : goal.returns-in_err-total_fault-clause-value
returns-in_err-total_fault-clause-value c = let p = err_from_is_err_and c.from_residual-in_err-total_fault.result c.from_residual-in_err-total_fault.ensures.1 in rw (p.1, p.2) (search (total_answer, refused_not_0, c.in_ok-fault.ensures, c.in_ok-once_fault.ensures.value, c.in_err-total_fault.ensures))

pub returns-in_err-total_fault-clause-work_after : goal.returns-in_err-total_fault-clause-work_after
returns-in_err-total_fault-clause-work_after c = search (once_work, c.in_ok-fault.ensures)

pub returns-clause-value : goal.returns-clause-value
returns-clause-value c = search (sound_answer, c.in_ok-fault.ensures, c.in_ok-once_fault.ensures.value, c.in_ok-total_fault.ensures)

pub returns-clause-work_after : goal.returns-clause-work_after
returns-clause-work_after c = search (once_work, c.in_ok-fault.ensures)
