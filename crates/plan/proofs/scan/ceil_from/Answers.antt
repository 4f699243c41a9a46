use Rattle.spec_trim.proofs.plan.SyncLaws.{ceil_found, ceil_again, ceil_last}
use Rattle.plan.proofs.scan.ceil_from.Goals as goal

pub returns-then-sync_at : goal.returns-then-sync_at
returns-then-sync_at c = search ceil_found

pub loop-k-preserved : goal.loop-k-preserved
loop-k-preserved c = search ceil_again

pub returns : goal.returns
returns c = search ceil_last
