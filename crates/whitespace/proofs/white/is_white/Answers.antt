use native.Mathlib.Omega.{arith}
use Rattle.std.proofs.lemmas.Grind.{common_steps}
use Rattle.spec_text.specs.whitespace.White.{white, white_high}
use Rattle.whitespace.proofs.white.is_white.Goals as goal

pub returns-in_default : goal.returns-in_default
unfolding white white_high
returns-in_default c = grind (arith, common_steps)

pub returns-in-9-to-13 : goal.returns-in-9-to-13
unfolding white
returns-in-9-to-13 c = grind (arith, common_steps)

pub returns-in-9-to-13-2 : goal.returns-in-9-to-13-2
unfolding white
returns-in-9-to-13-2 c = grind (arith, common_steps)
