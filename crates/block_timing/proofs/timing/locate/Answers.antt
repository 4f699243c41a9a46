use mathlib.Core.Path.{refl}
use native.Mathlib.Omega.{arith}
use Rattle.spec_cue.proofs.block_timing.PlaceLaws.{place_found, place_again, place_none, line_inside, rest_sum, lines_few}
use Rattle.spec_text.proofs.text.LineLaws.{line_less}
use Rattle.block_timing.proofs.timing.locate.Goals as goal

pub loop-t-init : goal.loop-t-init
loop-t-init c = (refl, omega arith, omega arith)

pub returns-then-has_arrow-clause-value : goal.returns-then-has_arrow-clause-value
returns-then-has_arrow-clause-value c = search place_found depth 14

pub overflow_add-at : goal.overflow_add-at
overflow_add-at c = omega (arith, line_inside _ _ c.line_length-n.ensures)

pub overflow_add-lines : goal.overflow_add-lines
overflow_add-lines c = omega (arith, line_inside _ _ c.line_length-n.ensures)

pub loop-t-smaller : goal.loop-t-smaller
loop-t-smaller c = search line_less

pub loop-t-preserved : goal.loop-t-preserved
loop-t-preserved c = (place_again _ _ _ _ _ _ _ _ _ c.loop-t.invariant.0 c.loop-t-test.true c.line_length-n.ensures c.front-line.ensures c.text_of.ensures c.has_arrow.ensures c.if-has_arrow.false c.rest-t.ensures, search rest_sum, search lines_few)

pub returns-clause-value : goal.returns-clause-value
returns-clause-value c = search place_none
