use native.Mathlib.Omega.{arith}
use lib.ListN.{length-set}
use Rattle.spec_trim.proofs.plan.SnapLaws.{stored_out, stored_in}
use Rattle.spec_trim.proofs.plan.KnownLaws.{floor_told, ceil_told}
use Rattle.plan.proofs.moves.snap_at.Goals as goal

pub bounds-ranges-at-then-direction-eq0-2 : goal.bounds-ranges-at-then-direction-eq0-2
bounds-ranges-at-then-direction-eq0-2 c = simp length-set (omega arith)

pub returns-then-direction-eq0-clause-sync_value_2 : goal.returns-then-direction-eq0-clause-sync_value_2
returns-then-direction-eq0-clause-sync_value_2 c = (search floor_told, search ceil_told)

pub returns-then-direction-eq0-clause-ranges_after : goal.returns-then-direction-eq0-clause-ranges_after
returns-then-direction-eq0-clause-ranges_after c = search stored_out

pub bounds-ranges-at-4 : goal.bounds-ranges-at-4
bounds-ranges-at-4 c = simp length-set (omega arith)

pub returns-clause-sync_value_2 : goal.returns-clause-sync_value_2
returns-clause-sync_value_2 c = (search floor_told, search ceil_told)

pub returns-clause-ranges_after : goal.returns-clause-ranges_after
returns-clause-ranges_after c = search stored_in
