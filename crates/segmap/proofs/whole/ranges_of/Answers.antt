use Rattle.std.proofs.Common.{refl, arith}
use Rattle.std.proofs.lemmas.Result.{err_from_is_err_and}
use Rattle.refusals.proofs.Laws.{refused_not_0}
use Rattle.spec_map.proofs.segmap.MapLaws.{kept_refused, kept_list, list_front, kept_blank, blank_front}
use Rattle.segmap.proofs.whole.ranges_of.Goals as goal

pub returns-in_err-count-clause-value : goal.returns-in_err-count-clause-value
returns-in_err-count-clause-value c = let p = err_from_is_err_and c.from_residual.result c.from_residual.ensures.1 in rw (p.1, p.2) (search (kept_refused, refused_not_0, c.in_err-count.ensures.value, c.in_err-count.ensures.ranges_after))

pub returns-in_err-count-clause-ranges_after : goal.returns-in_err-count-clause-ranges_after
returns-in_err-count-clause-ranges_after c = let p = err_from_is_err_and c.from_residual.result c.from_residual.ensures.1 in rw (p.1, p.2) (λ z. absurd (refused_not_0 _ z))

pub returns-then-count-ne0-clause-value : goal.returns-then-count-ne0-clause-value
returns-then-count-ne0-clause-value c = search (kept_list, c.in_ok-count.ensures.value, c.in_ok-count.ensures.ranges_after)

pub returns-then-count-ne0-clause-ranges_after : goal.returns-then-count-ne0-clause-ranges_after
returns-then-count-ne0-clause-ranges_after c = λ z. let e = c.in_ok-count.ensures in list_front _ _ _ _ _ e.value (omega arith) e.ranges_after refl c.if-count-ne0.true

pub returns-clause-value : goal.returns-clause-value
returns-clause-value c = search (kept_blank, c.in_ok-count.ensures.value, c.in_ok-count.ensures.ranges_after)

pub returns-clause-ranges_after : goal.returns-clause-ranges_after
returns-clause-ranges_after c = λ z. search (blank_front, c.in_ok-count.ensures.value, c.in_ok-count.ensures.ranges_after)
