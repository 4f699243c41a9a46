use native.Mathlib.Omega.{arith}
use mathlib.Core.Path.{refl, sym}
use native.Mathlib.Nat.{zero-add}
use Rattle.std.proofs.lemmas.Result.{err_from_is_err_and}
use Rattle.refusals.proofs.Laws.{refused_not_0}
use Rattle.spec_trim.proofs.trim.ReadLaws.{read_filled, read_many, number_again, places_again, drop_shorter}
use Rattle.trim.proofs.AnswerLaws.{fault_read, last_read, more_read}
use borrow.Author.Rules.{rules}
use Rattle.trim.proofs.list.read_tokens.Goals as goal

pub loop-count-init : goal.loop-count-init
loop-count-init c = (search rules, refl, search rules, refl, sym (zero-add _), refl)

pub returns-in_err-r-clause-value : goal.returns-in_err-r-clause-value
returns-in_err-r-clause-value c = let p = err_from_is_err_and c.from_residual.result c.from_residual.ensures.1 in rw (p.1, p.2) (search (fault_read, c.in_err-r.ensures))

pub returns-in_err-r-clause-ranges_after : goal.returns-in_err-r-clause-ranges_after
returns-in_err-r-clause-ranges_after c = let p = err_from_is_err_and c.from_residual.result c.from_residual.ensures.1 in rw (p.1, p.2) (λ z. absurd (refused_not_0 _ z))

pub returns-then-t-k-clause-value : goal.returns-then-t-k-clause-value
returns-then-t-k-clause-value c = search (last_read, c.in_ok-r.ensures)

pub returns-then-t-k-clause-ranges_after : goal.returns-then-t-k-clause-ranges_after
returns-then-t-k-clause-ranges_after c = λ z. search (read_filled, c.in_ok-r.ensures)

pub loop-count-preserved : goal.loop-count-preserved
loop-count-preserved c = (omega arith, omega arith, search drop_shorter, search (number_again, c.in_ok-r.ensures), search (more_read, c.in_ok-r.ensures), search (places_again, c.in_ok-r.ensures))

pub returns-clause-value : goal.returns-clause-value
returns-clause-value c = search read_many

pub returns-clause-ranges_after : goal.returns-clause-ranges_after
returns-clause-ranges_after c = λ z. absurd (omega arith)
