use native.Mathlib.Omega.{arith}
use Rattle.std.proofs.lemmas.Grind.{common_steps}
use Rattle.spec_text.specs.utf8.Utf8.{second_low}
use Rattle.utf8.proofs.utf8.second_low.Goals as goal

pub returns-in-224 : goal.returns-in-224
unfolding second_low
returns-in-224 c = grind (arith, common_steps)

pub returns-in-240 : goal.returns-in-240
unfolding second_low
returns-in-240 c = grind (arith, common_steps)

pub returns-in_default : goal.returns-in_default
unfolding second_low
returns-in_default c = grind (arith, common_steps)
