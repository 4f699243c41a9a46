use native.Mathlib.Omega.{arith}
use Rattle.spec_trim.proofs.plan.KnownLaws.{floor_found, floor_again, floor_kept}
use Rattle.plan.proofs.scan.floor_from.Goals as goal

pub returns-then-sync_at : goal.returns-then-sync_at
returns-then-sync_at c = search floor_found

pub loop-k-preserved : goal.loop-k-preserved
loop-k-preserved c = (omega arith, search floor_again)

pub returns : goal.returns
returns c = search floor_kept
