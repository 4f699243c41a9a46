use mathlib.Core.Path.{◌∙◌}
use native.Mathlib.Omega.{arith}
use Rattle.replay_maps.proofs.MadeLaws.{lent_all, lent_least}
use Rattle.replay_maps.proofs.mapping.work_lent.Goals as goal

pub returns-then-c-eq0 : goal.returns-then-c-eq0
returns-then-c-eq0 c = (search lent_all, omega arith)

pub returns-else-c-eq0 : goal.returns-else-c-eq0
returns-else-c-eq0 c = (c.min.ensures ∙ lent_least _ c.if-c-eq0.false, omega arith)
