use native.Mathlib.Omega.{arith}
use Rattle.spec_text.proofs.text.LineLaws.{line_hit, line_miss}
use Rattle.text.proofs.StepLaws.{line_whole}
use Rattle.text.proofs.line.line_length.Goals as goal

pub returns-then-s-i-eq10 : goal.returns-then-s-i-eq10
returns-then-s-i-eq10 c = search line_hit

pub loop-i-preserved : goal.loop-i-preserved
loop-i-preserved c = (omega arith, search line_miss)

pub returns : goal.returns
returns c = search line_whole
