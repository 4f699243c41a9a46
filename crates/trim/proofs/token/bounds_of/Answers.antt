use Rattle.std.proofs.lemmas.Result.{err_from_is_err_and}
use Rattle.spec_trim.proofs.trim.TokenLaws.{bounds_none, bounds_none_2, bounds_both}
use Rattle.trim.proofs.AnswerLaws.{err_given}
use Rattle.trim.proofs.token.bounds_of.Goals as goal

pub returns-in_err-a : goal.returns-in_err-a
returns-in_err-a c =
    let p = err_from_is_err_and c.from_residual.result c.from_residual.ensures.1 in
    let e = c.in_err-a.ensures in
    rw (p.1, p.2, err_given _ _ _ e.ok_part e.value) (bounds_none _ _ e.ok_part)

pub returns-in_err-b : goal.returns-in_err-b
returns-in_err-b c =
    let p = err_from_is_err_and c.from_residual-in_err-b.result c.from_residual-in_err-b.ensures.1 in
    let e = c.in_err-b.ensures in
    rw (p.1, p.2, err_given _ _ _ e.ok_part e.value) (bounds_none_2 _ _ _ c.in_ok-a.ensures.ok_part e.ok_part)

pub returns : goal.returns
returns c = bounds_both _ _ _ _ _ c.in_ok-a.ensures.ok_part c.in_ok-b.ensures.ok_part c.range_of.ensures
