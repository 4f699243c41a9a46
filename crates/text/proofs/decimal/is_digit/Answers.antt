use native.Mathlib.Omega.{arith}
use Rattle.std.proofs.lemmas.Grind.{common_steps}
use Rattle.spec_text.specs.text.Number.{digit}
use Rattle.text.proofs.decimal.is_digit.Goals as goal

pub returns : goal.returns
unfolding digit
returns c = grind (arith, common_steps)
