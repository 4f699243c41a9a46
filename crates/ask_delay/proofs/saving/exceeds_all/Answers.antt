use mathlib.Core.Path.{refl, ◌∙◌}
use native.Mathlib.Omega.{arith}
use Rattle.spec_ask.proofs.ask_delay.SavingLaws.{exceeds_found, exceeds_again, exceeds_end}
use Rattle.ask_delay.proofs.Chunks.{chunk}
use Rattle.ask_delay.proofs.saving.exceeds_all.Goals as goal

pub loop-s-init : goal.loop-s-init
loop-s-init c = let e = c.into_iter-s-iterator.ensures.into_iter_gives in let g = c.chunks_exact-s-items.ensures in (rw e g.size, rw (e, g.rest) refl)

pub returns-then-n-s : goal.returns-then-n-s
returns-then-n-s c =
    let l = c.loop-s.invariant in
    let p = c.in-Some.ensures.steps.1 in
    let k = chunk 6 _ _ _ p.0 (p.1 ∙ l.0) in
    exceeds_found _ _ _ _ l.1 k.long (k.at 5 (omega arith)) c.if-n-s.true

pub loop-s-preserved : goal.loop-s-preserved
loop-s-preserved c =
    let l = c.loop-s.invariant in
    let p = c.in-Some.ensures.steps in
    let k = chunk 6 _ _ _ p.1.0 (p.1.1 ∙ l.0) in
    (p.0 ∙ l.0, exceeds_again _ _ _ _ l.1 k.long (k.at 5 (omega arith)) _ k.left c.if-n-s.false)

pub returns : goal.returns
returns c = let l = c.loop-s.invariant in exceeds_end _ _ _ l.1 (omega (arith, l.0, c.in-None.ensures.steps.1.0))
