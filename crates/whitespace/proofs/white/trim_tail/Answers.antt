use mathlib.Core.Path.{refl}
use Rattle.spec_base.proofs.base.Laws.{less_less}
use Rattle.spec_text.proofs.whitespace.Laws.{keep_empty, keep_found, keep_again}
use Rattle.whitespace.proofs.white.trim_tail.Goals as goal

pub loop-n-init : goal.loop-n-init
loop-n-init c = refl

pub returns-then-w-eq0 : goal.returns-then-w-eq0
returns-then-w-eq0 c = search keep_found

pub loop-n-smaller : goal.loop-n-smaller
loop-n-smaller c = search less_less

pub loop-n-preserved : goal.loop-n-preserved
loop-n-preserved c = search keep_again

pub returns : goal.returns
returns c = search keep_empty
