use native.Mathlib.Omega.{arith}
use Rattle.std.proofs.lemmas.Grind.{common_steps}
use Rattle.spec_text.specs.text.Line.{terminator_length}
use Rattle.text.proofs.line.terminator_length.Goals as goal

pub returns-in-13 : goal.returns-in-13
unfolding terminator_length
returns-in-13 c = grind (arith, common_steps)

pub returns-in-10 : goal.returns-in-10
unfolding terminator_length
returns-in-10 c = grind (arith, common_steps)

pub returns-in-10-2 : goal.returns-in-10-2
unfolding terminator_length
returns-in-10-2 c = grind (arith, common_steps)

pub returns-in_default : goal.returns-in_default
unfolding terminator_length
returns-in_default c = grind (arith, common_steps)

pub returns-in_default-2 : goal.returns-in_default-2
unfolding terminator_length
returns-in_default-2 c = grind (arith, common_steps)

pub returns-in_default-3 : goal.returns-in_default-3
unfolding terminator_length
returns-in_default-3 c = grind (arith, common_steps)
