use Rattle.std.proofs.Common.{arith}
use Rattle.spec_trim.proofs.plan.KnownLaws.{floor_of_first}
use Rattle.plan.proofs.scan.floor_sync.Goals as goal
use Rattle.plan.proofs.scan.floor_sync.Goals.{then-x-from, else-x-from}

pub floor_from-requires : goal.floor_from-requires
floor_from-requires c =
    elim c.if-x-from.branch [ then-x-from w ↦ (rw w.known-is (search floor_of_first), rw w.known-is (omega arith)) | else-x-from w ↦ (rw w.known-is (search floor_of_first), rw w.known-is (omega arith)) ]
