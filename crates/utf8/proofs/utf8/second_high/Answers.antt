use native.Mathlib.Omega.{arith}
use Rattle.std.proofs.lemmas.Grind.{common_steps}
use Rattle.spec_text.specs.utf8.Utf8.{second_high}
use Rattle.utf8.proofs.utf8.second_high.Goals as goal

pub returns-in-237 : goal.returns-in-237
unfolding second_high
returns-in-237 c = grind (arith, common_steps)

pub returns-in-244 : goal.returns-in-244
unfolding second_high
returns-in-244 c = grind (arith, common_steps)

pub returns-in_default : goal.returns-in_default
unfolding second_high
returns-in_default c = grind (arith, common_steps)
