use native.Mathlib.Omega.{arith}
use Rattle.spec_text.proofs.pattern.Laws.{first_found, first_again}
use Rattle.pattern.proofs.StdLaws.{first_whole}
use Rattle.pattern.proofs.pattern.find.Goals as goal

pub returns-then-stands : goal.returns-then-stands
returns-then-stands c = search first_found

pub loop-i-preserved : goal.loop-i-preserved
loop-i-preserved c = (omega arith, search first_again)

pub returns : goal.returns
returns c = search first_whole
