use Rattle.std.proofs.Common.{refl, sym, ◌∙◌, arith}
use Rattle.std.proofs.lemmas.Result.{err_from_is_err_and}
use Rattle.std.proofs.lemmas.Option.{MatchOption-at_none, MatchOption-at_some}
use borrow.Author.Tests.{eqb-true, eqb-false}
use Rattle.spec_trim.proofs.trim.TokenLaws.{closed_some, closed_none}
use Rattle.trim.proofs.AnswerLaws.{err_given}
use Rattle.trim.proofs.ReadingLaws.{last_told}
use Rattle.trim.proofs.token.closed_of.Goals as goal

pub returns-in_err-pair : goal.returns-in_err-pair
returns-in_err-pair c =
    let r = c.args.r.now in
    let p = err_from_is_err_and c.from_residual.result c.from_residual.ensures.1 in
    let e = c.in_err-pair.ensures in
    let f = MatchOption-at_none _ _ e.ok_part c.strip_suffix.ensures.cases in
    rw (p.1, p.2, err_given _ _ _ e.ok_part e.value) (closed_none r _ _ refl refl (eqb-false _ _ (sym (last_told r 0x29 (λ z. omega arith)) ∙ f)))

pub returns : goal.returns
returns c =
    let r = c.args.r.now in
    let e = MatchOption-at_some _ _ _ c.in_ok-pair.ensures.ok_part c.strip_suffix.ensures.cases in
    closed_some r _ _ _ _ refl refl (eqb-true _ _ (sym (last_told r 0x29 (λ z. omega arith)) ∙ e.0)) e.1 c.pair_of.ensures
