use native.Mathlib.Omega.{arith}
use Rattle.std.proofs.lemmas.Grind.{common_steps}
use Rattle.spec_text.specs.utf8.Utf8.{code_by}
use Rattle.utf8.proofs.utf8.code_by.Goals as goal

pub returns-in-1 : goal.returns-in-1
unfolding code_by
returns-in-1 c = grind (arith, common_steps)

pub returns-in-2 : goal.returns-in-2
unfolding code_by
returns-in-2 c = grind (arith, common_steps)

pub returns-in-3 : goal.returns-in-3
unfolding code_by
returns-in-3 c = grind (arith, common_steps)

pub returns-in_default : goal.returns-in_default
unfolding code_by
returns-in_default c = grind (arith, common_steps)
