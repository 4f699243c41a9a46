use Rattle.spec_trim.proofs.trim.TokenLaws.{step_fault, step_crossing, step_range}
use Rattle.std.proofs.lemmas.Result.{err_from_is_err_and}
use borrow.Author.Rules.{rules}
use Rattle.trim.proofs.token.step_of.Goals as goal

pub returns-in_err-r : goal.returns-in_err-r
returns-in_err-r c = let p = err_from_is_err_and c.from_residual.result c.from_residual.ensures.1 in rw (p.1, p.2) (step_fault _ _ _ _ c.trimmed.ensures c.in_err-r.ensures)

pub returns-then-r-prev : goal.returns-then-r-prev
returns-then-r-prev c = search (rules, step_crossing) depth 12

pub returns : goal.returns
returns c = search (rules, step_range) depth 12
