use mathlib.Core.Path.{◌∙◌}
use native.Mathlib.Omega.{arith}
use Rattle.spec_ask.proofs.ask_delay.TallyLaws.{start_near, stop_near, tally_most, tally_again, tally_end}
use Rattle.ask_delay.proofs.Chunks.{chunk}
use Rattle.ask_delay.proofs.counting.count_all.Goals as goal

pub count_one-requires : goal.count_one-requires
count_one-requires c =
    let h = c.requires in
    let l = c.loop-c.invariant in
    let p = c.in-Some.ensures.steps.1 in
    let k = chunk 2 _ _ _ p.0 (p.1 ∙ l.0) in
    (c.paint.ensures.size, start_near _ l.1.good k.long _ (k.at 0 (omega arith)), stop_near _ l.1.good k.long _ (k.at 1 (omega arith)), h.5, l.1.size, tally_most _ _ _ _ _ _ _ _ l.1 h.4)

pub loop-c-preserved : goal.loop-c-preserved
loop-c-preserved c =
    let h = c.requires in
    let l = c.loop-c.invariant in
    let p = c.in-Some.ensures.steps in
    let k = chunk 2 _ _ _ p.1.0 (p.1.1 ∙ l.0) in
    (p.0 ∙ l.0, tally_again _ _ _ _ _ _ _ _ l.1 h.1 h.0 h.5 k.long _ _ (k.at 0 (omega arith)) (k.at 1 (omega arith)) _ _ _ c.paint.ensures c.count_one.ensures k.left)

pub returns : goal.returns
returns c = let l = c.loop-c.invariant in tally_end _ _ _ _ _ _ _ _ l.1 (omega (arith, l.0, c.in-None.ensures.steps.1.0))
