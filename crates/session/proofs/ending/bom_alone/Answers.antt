use mathlib.Core.Path.{◌∙◌}
use borrow.Author.Tests.{ne_eqb}
use Rattle.spec_session.proofs.session.EndLaws.{alone_no, alone_asked}
use Rattle.session.proofs.ending.bom_alone.Goals as goal

pub returns-then-n-eq0 : goal.returns-then-n-eq0
returns-then-n-eq0 c = alone_asked _ _ _ c.if-n-eq0.true c.equals.ensures

pub returns-else-n-eq0 : goal.returns-else-n-eq0
returns-else-n-eq0 c = ne_eqb c.args.n 0 c.if-n-eq0.false ∙ alone_no _ _ c.if-n-eq0.false
