use borrow.Author.Tests.{eqb-true, eqb-false}
use mathlib.Core.Path.{sym, ◌∙◌}
use native.Mathlib.Omega.{arith}
use Rattle.spec_json.proofs.json.NumberLaws.{plain_none, plain_lead}
use Rattle.spec_text.proofs.text.Laws.{digits_again, digit_some}
use Rattle.json_values.proofs.RunLaws.{plain_other, plain_end, value_next, digit_small, digit_over}
use Rattle.json_values.proofs.number.plain_value.Goals as goal
use Rattle.json_values.proofs.number.plain_value.Goals.{then-is_empty-via-then-is_empty, then-is_empty-via-else-is_empty+then-leads_zero, then-most-d-via-then-most-d, then-most-d-via-else-most-d+then-most-d-2}

pub returns-then-is_empty : goal.returns-then-is_empty
returns-then-is_empty c =
    elim c.then-is_empty.branch [
      | then-is_empty-via-then-is_empty w ↦ plain_none _ _ (eqb-true _ _ (sym c.is_empty.ensures ∙ w.if-is_empty.true))
      | then-is_empty-via-else-is_empty+then-leads_zero w ↦ plain_lead _ _ _ (eqb-false _ _ (sym c.is_empty.ensures ∙ w.if-is_empty.false)) w.leads_zero.ensures w.if-leads_zero.true
    ]

pub returns-then-not-is_ascii_digit : goal.returns-then-not-is_ascii_digit
returns-then-not-is_ascii_digit c = search plain_other

pub returns-then-most-d : goal.returns-then-most-d
returns-then-most-d c =
    elim c.then-most-d.branch [
      | then-most-d-via-then-most-d w ↦ search (digit_small, w.if-most-d)
      | then-most-d-via-else-most-d+then-most-d-2 w ↦ search (digit_over, w.if-most-d, w.if-most-d-2)
    ]

pub loop-b-preserved : goal.loop-b-preserved
loop-b-preserved c =
    (search (digits_again, digit_some, c.if-not-is_ascii_digit.ensures.cases.0, c.if-not-is_ascii_digit.ensures.cases.1), search value_next, omega arith)

pub returns : goal.returns
returns c = search plain_end
