use Rattle.spec_trim.proofs.plan.KnownLaws.{ceil_kept}
use borrow.Author.Rules.{rules}
use Rattle.plan.proofs.scan.ceil_sync.Goals as goal

pub returns-then-x-from : goal.returns-then-x-from
returns-then-x-from c = (search rules, search ceil_kept)
