use mathlib.Core.Path.{◌∙◌}
use Rattle.pattern.proofs.StdLaws.{equals_pointwise}
use Rattle.pattern.proofs.pattern.equals.Goals as goal

pub returns : goal.returns
returns c = c.eq.ensures ∙ equals_pointwise _ _
