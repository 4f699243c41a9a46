use mathlib.Core.Path.{refl}
use Rattle.std.proofs.lemmas.Result.{err_from_is_err_and}
use Rattle.refusals.proofs.Laws.{refused_not_0}
use Rattle.spec_trim.specs.trim.TrimList.{parsed}
use Rattle.spec_trim.proofs.trim.ReadLaws.{read_head, read_rest_lem, rest_count, not_blank, read_blank, blank_filled}
use borrow.Author.Rules.{rules}
use Rattle.trim.proofs.list.read.Goals as goal

pub returns-in_err-head_number-clause-value : goal.returns-in_err-head_number-clause-value
returns-in_err-head_number-clause-value c = let p = err_from_is_err_and c.from_residual.result c.from_residual.ensures.1 in rw (p.1, p.2) (search (read_head, refused_not_0, c.in_err-head_number.ensures))

pub returns-in_err-head_number-clause-ranges_after : goal.returns-in_err-head_number-clause-ranges_after
returns-in_err-head_number-clause-ranges_after c = let p = err_from_is_err_and c.from_residual.result c.from_residual.ensures.1 in rw (p.1, p.2) (λ z. absurd (refused_not_0 _ z))

pub returns-then-is_blank-clause-value : goal.returns-then-is_blank-clause-value
returns-then-is_blank-clause-value c = search (read_blank, c.in_ok-head_number.ensures)

pub returns-then-is_blank-clause-ranges_after : goal.returns-then-is_blank-clause-ranges_after
returns-then-is_blank-clause-ranges_after c = λ z. blank_filled _ _ (parsed 0 0) c.in_ok-head_number.ensures refl _ c.is_blank.ensures _ c.if-is_blank.true

pub read_tokens-requires : goal.read_tokens-requires
read_tokens-requires c = (search rules, search (not_blank, c.in_ok-head_number.ensures))

pub returns-clause-value : goal.returns-clause-value
returns-clause-value c = search (read_rest_lem, c.in_ok-head_number.ensures)

pub returns-clause-count_le_most_trims : goal.returns-clause-count_le_most_trims
returns-clause-count_le_most_trims c = search (rest_count, c.in_ok-head_number.ensures)
