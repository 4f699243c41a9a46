use native.Mathlib.Omega.{arith}
use Rattle.std.proofs.lemmas.Grind.{common_steps}
use Rattle.spec_text.specs.utf8.Utf8.{width_by}
use Rattle.utf8.proofs.utf8.width_by.Goals as goal

pub returns-then-n-lt2 : goal.returns-then-n-lt2
unfolding width_by
returns-then-n-lt2 c = grind (arith, common_steps)

pub returns-then-second_high-b : goal.returns-then-second_high-b
unfolding width_by
returns-then-second_high-b c = grind (arith, common_steps)

pub returns-then-n-eq2 : goal.returns-then-n-eq2
unfolding width_by
returns-then-n-eq2 c = grind (arith, common_steps)

pub returns-then-not-is_tail : goal.returns-then-not-is_tail
unfolding width_by
returns-then-not-is_tail c = grind (arith, common_steps)

pub returns-then-n-eq3 : goal.returns-then-n-eq3
unfolding width_by
returns-then-n-eq3 c = grind (arith, common_steps)

pub returns-then-is_tail : goal.returns-then-is_tail
unfolding width_by
returns-then-is_tail c = grind (arith, common_steps)

pub returns-else-is_tail : goal.returns-else-is_tail
unfolding width_by
returns-else-is_tail c = grind (arith, common_steps)
