use mathlib.Core.Path.{refl}
use Rattle.spec_base.proofs.base.Laws.{drop_less}
use Rattle.spec_text.proofs.whitespace.Laws.{head_empty, head_found, head_again}
use Rattle.whitespace.proofs.EmptyLaws.{some_left, none_left}
use Rattle.whitespace.proofs.white.trim_head.Goals as goal

pub loop-w-init : goal.loop-w-init
loop-w-init c = refl

pub returns-then-w-eq0 : goal.returns-then-w-eq0
returns-then-w-eq0 c = search (head_found, some_left)

pub loop-w-smaller : goal.loop-w-smaller
loop-w-smaller c = search (drop_less, some_left)

pub loop-w-preserved : goal.loop-w-preserved
loop-w-preserved c = search (head_again, some_left)

pub returns : goal.returns
returns c = search (head_empty, none_left)
