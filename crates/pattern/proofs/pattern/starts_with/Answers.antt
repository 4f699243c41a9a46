use mathlib.Core.Path.{refl, ◌∙◌}
use native.Mathlib.Omega.{arith}
use Rattle.spec_text.proofs.pattern.Laws.{stands_other}
use Rattle.pattern.proofs.StdLaws.{starts_pointwise}
use Rattle.pattern.proofs.pattern.starts_with.Goals as goal

pub returns : goal.returns
returns c = c.starts_with.ensures.value ∙ starts_pointwise _ _

pub returns-then-s-p : goal.returns-then-s-p
returns-then-s-p c = stands_other c.args.p.now c.args.s.now 0 _ (λ z. omega (arith, c.if-p-gt0.true)) refl c.if-s-p.true
