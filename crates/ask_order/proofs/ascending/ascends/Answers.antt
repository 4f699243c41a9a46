use mathlib.Core.Path.{◌∙◌}
use native.Mathlib.Omega.{arith}
use Rattle.spec_ask.proofs.ask_order.AscendLaws.{ascend_start, ascend_back, ascend_again, ascend_end}
use Rattle.ask_order.proofs.Chunks.{chunk}
use Rattle.ask_order.proofs.ascending.ascends.Goals as goal

pub loop-s-init : goal.loop-s-init
loop-s-init c =
    let e = c.into_iter-s-iterator.ensures.into_iter_gives in
    (rw e c.chunks_exact-s-items.ensures.size, rw (e, c.chunks_exact-s-items.ensures.rest) (ascend_start _))

pub returns-then-steps_back : goal.returns-then-steps_back
returns-then-steps_back c =
    let l = c.loop-s.invariant in
    let p = c.in-Some.ensures.steps.1 in
    let k = chunk 6 _ _ _ p.0 (p.1 ∙ l.0) in
    ascend_back _ _ _ _ _ _ _ _ _ l.1 k.long (k.at 2 (omega arith)) (k.at 4 (omega arith)) (k.at 5 (omega arith)) c.steps_back.ensures c.if-steps_back.true

pub loop-s-preserved : goal.loop-s-preserved
loop-s-preserved c =
    let l = c.loop-s.invariant in
    let p = c.in-Some.ensures.steps in
    let k = chunk 6 _ _ _ p.1.0 (p.1.1 ∙ l.0) in
    let e = c.later-last.ensures in
    (p.0 ∙ l.0, ascend_again _ _ _ _ _ _ _ _ _ _ _ _ _ l.1 k.long (k.at 2 (omega arith)) (k.at 4 (omega arith)) (k.at 5 (omega arith)) c.steps_back.ensures c.if-steps_back.false e.source e.output e.length k.left)

pub returns : goal.returns
returns c =
    let l = c.loop-s.invariant in
    ascend_end _ _ _ _ _ l.1 (omega (arith, l.0, c.in-None.ensures.steps.1.0))
