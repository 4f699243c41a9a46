use mathlib.Core.Path.{◌∙◌}
use native.Mathlib.Omega.{arith}
use Rattle.spec_ask.proofs.ask_delay.TallyLaws.{stop_near}
use Rattle.spec_ask.proofs.ask_delay.SavingLaws.{floor_room, floor_again, floor_end}
use Rattle.ask_delay.proofs.Chunks.{chunk}
use Rattle.ask_delay.proofs.saving.floor_of.Goals as goal

pub too_long-requires : goal.too_long-requires
too_long-requires c =
    let h = c.requires in
    let l = c.loop-c.invariant in
    let p = c.in-Some.ensures.steps.1 in
    let k = chunk 2 _ _ _ p.0 (p.1 ∙ l.0) in
    (h.0, h.1, stop_near _ l.1.good k.long _ (k.at 1 (omega arith)))

pub more-n-requires : goal.more-n-requires
more-n-requires c = floor_room _ _ _ _ _ _ c.loop-c.invariant.1 c.requires.3

pub loop-c-preserved : goal.loop-c-preserved
loop-c-preserved c =
    let l = c.loop-c.invariant in
    let p = c.in-Some.ensures.steps in
    let k = chunk 2 _ _ _ p.1.0 (p.1.1 ∙ l.0) in
    (p.0 ∙ l.0, floor_again _ _ _ _ _ _ l.1 _ _ _ _ _ k.long (k.at 0 (omega arith)) (k.at 1 (omega arith)) c.too_long.ensures c.more-n.ensures k.left)

pub returns : goal.returns
returns c = let l = c.loop-c.invariant in floor_end _ _ _ _ _ _ l.1 (omega (arith, l.0, c.in-None.ensures.steps.1.0))
