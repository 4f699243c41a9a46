use native.Mathlib.Omega.{arith}
use Rattle.std.proofs.lemmas.Grind.{common_steps}
use Rattle.spec_text.specs.whitespace.White.{white_high}
use Rattle.whitespace.proofs.white.is_white_high.Goals as goal

pub returns-in_default : goal.returns-in_default
unfolding white_high
returns-in_default c = grind (arith, common_steps)

pub returns-in_default-2 : goal.returns-in_default-2
unfolding white_high
returns-in_default-2 c = grind (arith, common_steps)

pub returns-in_default-3 : goal.returns-in_default-3
unfolding white_high
returns-in_default-3 c = grind (arith, common_steps)

pub returns-in-8192-to-8202 : goal.returns-in-8192-to-8202
unfolding white_high
returns-in-8192-to-8202 c = grind (arith, common_steps)

pub returns-in-8192-to-8202-2 : goal.returns-in-8192-to-8202-2
unfolding white_high
returns-in-8192-to-8202-2 c = grind (arith, common_steps)

pub returns-in-8192-to-8202-3 : goal.returns-in-8192-to-8202-3
unfolding white_high
returns-in-8192-to-8202-3 c = grind (arith, common_steps)
