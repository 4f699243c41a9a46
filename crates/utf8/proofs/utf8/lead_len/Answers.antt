use native.Mathlib.Omega.{arith}
use Rattle.std.proofs.lemmas.Grind.{common_steps}
use Rattle.spec_text.specs.utf8.Utf8.{lead_len}
use Rattle.utf8.proofs.utf8.lead_len.Goals as goal

pub returns-in-0-to-127 : goal.returns-in-0-to-127
unfolding lead_len
returns-in-0-to-127 c = grind (arith, common_steps)

pub returns-in-194-to-223 : goal.returns-in-194-to-223
unfolding lead_len
returns-in-194-to-223 c = grind (arith, common_steps)

pub returns-in-224-to-239 : goal.returns-in-224-to-239
unfolding lead_len
returns-in-224-to-239 c = grind (arith, common_steps)

pub returns-in-240-to-244 : goal.returns-in-240-to-244
unfolding lead_len
returns-in-240-to-244 c = grind (arith, common_steps)

pub returns-in_default : goal.returns-in_default
unfolding lead_len
returns-in_default c = grind (arith, common_steps)

pub returns-in_default-2 : goal.returns-in_default-2
unfolding lead_len
returns-in_default-2 c = grind (arith, common_steps)
