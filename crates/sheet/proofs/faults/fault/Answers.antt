use Rattle.std.proofs.lemmas.Result.{err_from_is_err_and}
use Rattle.refusals.proofs.Laws.{refused_not_0}
use Prim.Native.Nat.{◌<◌}
use lib.ListN.{length}
use native.Mathlib.Omega.{arith}
use Rattle.spec_sheet.proofs.sheet.FaultLaws.{fault_empty, fault_cut, fault_check, fault_head, fault_length, fault_blocks}
use Rattle.sheet.proofs.faults.fault.Goals as goal
use Rattle.sheet.proofs.faults.fault.Goals.{then-len-eq0-via-then-len-eq0, then-len-eq0-via-else-len-eq0+then-len-ne0}

pub returns-then-len-eq0 : goal.returns-then-len-eq0
returns-then-len-eq0 c =
    elim c.then-len-eq0.branch [ then-len-eq0-via-then-len-eq0 w ↦ fault_empty _ (omega arith) | then-len-eq0-via-else-len-eq0+then-len-ne0 w ↦ fault_cut _ (omega arith) w.if-len-ne0.true ]

pub returns-in_err-check_fault : goal.returns-in_err-check_fault
returns-in_err-check_fault c =
    let l : 0 < length c.args.s.now = omega arith in
    let p = err_from_is_err_and c.from_residual.result c.from_residual.ensures.1 in rw (p.1, p.2) (search (fault_check, refused_not_0, c.in_err-check_fault.ensures))

pub returns-in_err-head_fault : goal.returns-in_err-head_fault
returns-in_err-head_fault c =
    let l : 0 < length c.args.s.now = omega arith in
    let k = c.in_ok-check_fault.ensures in
    let p = err_from_is_err_and c.from_residual-in_err-head_fault.result c.from_residual-in_err-head_fault.ensures.1 in rw (p.1, p.2) (search (fault_head, refused_not_0, c.in_ok-check_fault.ensures, c.in_err-head_fault.ensures))

pub returns-then-len-record_blocks : goal.returns-then-len-record_blocks
returns-then-len-record_blocks c = let l : 0 < length c.args.s.now = omega arith in search (fault_length, c.in_ok-check_fault.ensures, c.in_ok-head_fault.ensures)

pub returns : goal.returns
returns c = let l : 0 < length c.args.s.now = omega arith in search (fault_blocks, c.in_ok-check_fault.ensures, c.in_ok-head_fault.ensures)
