use mathlib.Core.Path.{sym, ◌∙◌}
use native.Mathlib.Omega.{arith}
use borrow.Author.Tests.{eqb-false}
use Rattle.spec_text.proofs.text.Laws.{digits_refused, value_refused, digits_again, value_again, natural_passed}
use Rattle.text.proofs.StepLaws.{natural_none, digit_least}
use Rattle.text.proofs.decimal.digits_to.Goals as goal

pub returns-then-is_empty : goal.returns-then-is_empty
returns-then-is_empty c = search natural_none

pub returns-then-not-is_digit : goal.returns-then-not-is_digit
returns-then-not-is_digit c = digits_refused _ _ _ c.loop-b.invariant.0 c.loop-b-test.true (sym c.is_digit.ensures ∙ c.if-not-is_digit.true)

pub overflow_sub-b : goal.overflow_sub-b
overflow_sub-b c = digit_least _ (sym c.is_digit.ensures ∙ c.if-not-is_digit.false)

pub returns-then-limit-v : goal.returns-then-limit-v
returns-then-limit-v c = value_refused _ _ _ c.loop-b.v c.loop-b.invariant.1 c.loop-b-test.true (omega arith)

pub loop-b-preserved : goal.loop-b-preserved
loop-b-preserved c = (digits_again _ _ c.loop-b.invariant.0 c.loop-b-test.true (sym c.is_digit.ensures ∙ c.if-not-is_digit.false), rw c.from.ensures (value_again _ _ _ c.loop-b.invariant.1 c.loop-b-test.true), omega arith)

pub returns : goal.returns
returns c = natural_passed _ _ _ _ (eqb-false _ _ (sym c.is_empty.ensures ∙ c.if-is_empty.false)) c.loop-b.invariant.0 c.loop-b.invariant.1 c.loop-b.invariant.2 (omega arith)
