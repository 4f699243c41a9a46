use native.Mathlib.Omega.{arith}
use Rattle.std.proofs.lemmas.Grind.{common_steps}
use Rattle.spec_text.specs.utf8.Utf8.{tail}
use Rattle.utf8.proofs.utf8.is_tail.Goals as goal

pub returns-in-128-to-191 : goal.returns-in-128-to-191
unfolding tail
returns-in-128-to-191 c = grind (arith, common_steps)

pub returns-in_default : goal.returns-in_default
unfolding tail
returns-in_default c = grind (arith, common_steps)

pub returns-in_default-2 : goal.returns-in_default-2
unfolding tail
returns-in_default-2 c = grind (arith, common_steps)
