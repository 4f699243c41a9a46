use native.Mathlib.Omega.{arith}
use Rattle.spec_text.proofs.utf8.Laws.{run_found, run_again}
use Rattle.utf8.proofs.StepLaws.{run_whole}
use Rattle.utf8.proofs.utf8.ascii_run.Goals as goal

pub returns-then-s-i-ge128 : goal.returns-then-s-i-ge128
returns-then-s-i-ge128 c = search run_found

pub loop-i-preserved : goal.loop-i-preserved
loop-i-preserved c = (omega arith, search run_again)

pub returns : goal.returns
returns c = search run_whole
