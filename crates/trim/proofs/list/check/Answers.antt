use Rattle.std.proofs.lemmas.Result.{err_from_is_err_and}
use Rattle.spec_trim.proofs.trim.ReadLaws.{check_told}
use Rattle.trim.proofs.list.check.Goals as goal

pub returns-in_err-read : goal.returns-in_err-read
returns-in_err-read c = let p = err_from_is_err_and c.from_residual.result c.from_residual.ensures.1 in rw (p.1, p.2) (check_told _ _ c.in_err-read.ensures.value)

pub returns : goal.returns
returns c = check_told _ _ c.in_ok-read.ensures.value
