use mathlib.Core.Path.{ap}
use mathlib.Core.Bool.{not}
use native.Mathlib.Omega.{arith}
use borrow.Author.Tests.{not-false}
use Rattle.spec_session.proofs.session_text.LineLaws.{onto_more, closed_good, closed_later}
use Rattle.session_text.proofs.lining.pass_joins.Goals as goal

pub joins_block-requires : goal.joins_block-requires
joins_block-requires c = closed_good _ _ _ _ c.in-Some.ensures c.loop-end.invariant.6

pub loop-end-preserved : goal.loop-end-preserved
loop-end-preserved c =
    let I = c.loop-end.invariant in
    let C = c.in-Some.ensures in (
      omega (arith, I.0, C.lo),
      omega (arith, I.1, C.lo),
      omega (arith, I.2, C.lo),
      C.hi,
      I.4,
      onto_more _ _ _ _ _ _ _ _ _ I.5 c.if-kind-eq0.false C c.joins_block.ensures (not-false _ (ap not c.if-not-joins_block.false)),
      closed_later _ _ _ _ C I.6,
    )
