use Rattle.std.proofs.lemmas.Result.{err_from_is_err_and}
use Rattle.std.proofs.lemmas.Option.{MatchOption-at_none, MatchOption-at_some}
use Rattle.spec_trim.specs.trim.Token.{opening}
use Rattle.spec_trim.proofs.trim.TokenLaws.{token_some, token_none}
use Rattle.trim.proofs.AnswerLaws.{err_given}
use Rattle.trim.proofs.ReadingLaws.{starts_told}
use Rattle.trim.proofs.token.token_of.Goals as goal

pub returns-in_err-r : goal.returns-in_err-r
returns-in_err-r c =
    let p = err_from_is_err_and c.from_residual.result c.from_residual.ensures.1 in
    let e = c.in_err-r.ensures in
    let f = MatchOption-at_none _ _ e.ok_part c.strip_prefix.ensures.cases in
    rw (p.1, p.2, err_given _ _ _ e.ok_part e.value) (token_none c.args.t.now _ (starts_told opening c.args.t.now) f)

pub returns : goal.returns
returns c =
    let e = MatchOption-at_some _ _ _ c.in_ok-r.ensures.ok_part c.strip_prefix.ensures.cases in
    token_some c.args.t.now _ _ _ (starts_told opening c.args.t.now) e.0 e.1 c.closed_of.ensures
