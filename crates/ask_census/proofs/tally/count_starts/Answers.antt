use mathlib.Core.Path.{refl, ◌∙◌}
use native.Mathlib.Omega.{arith}
use Rattle.spec_ask.proofs.ask_census.Turns.{going_start, going_again, room_kept, room_whole, end_kept, end_whole}
use Rattle.ask_order.proofs.Chunks.{chunk}
use Rattle.ask_census.proofs.tally.count_starts.Goals as goal

pub loop-s-init : goal.loop-s-init
loop-s-init c = let e = c.into_iter-s-iterator.ensures.into_iter_gives in let h = c.requires in
    (rw e c.chunks_exact-s-items.ensures.size, rw (e, c.chunks_exact-s-items.ensures.rest) (search going_start))

pub overflow_add-kept : goal.overflow_add-kept
overflow_add-kept c =
    let h = c.requires in
    let l = c.loop-s.invariant in
    let p = c.in-Some.ensures.steps in
    let k = chunk 6 _ _ _ p.1.0 (p.1.1 ∙ l.0) in
    room_kept _ _ h.1 h.0 _ _ _ _ _ _ _ _ _ l.1 k.long (k.at 2 (omega arith)) (k.at 5 (omega arith)) _ _ _ _ _ _ _ _ c.edge_at-e.ensures c.saturating_sub.ensures c.max-first.ensures c.within-kept.ensures refl refl refl refl h.3 h.4

pub overflow_add-whole : goal.overflow_add-whole
overflow_add-whole c =
    let h = c.requires in
    let l = c.loop-s.invariant in
    let p = c.in-Some.ensures.steps in
    let k = chunk 6 _ _ _ p.1.0 (p.1.1 ∙ l.0) in
    room_whole _ _ h.1 h.0 _ _ _ _ _ _ _ _ _ l.1 k.long (k.at 2 (omega arith)) (k.at 5 (omega arith)) _ _ _ _ _ _ _ _ c.edge_at-e.ensures c.saturating_sub.ensures c.max-first.ensures c.within-kept.ensures c.max.ensures c.saturating_sub-in-loop-s.ensures c.min-last.ensures c.within-whole.ensures h.3 h.4

pub loop-s-preserved : goal.loop-s-preserved
loop-s-preserved c =
    let h = c.requires in
    let l = c.loop-s.invariant in
    let p = c.in-Some.ensures.steps in
    let k = chunk 6 _ _ _ p.1.0 (p.1.1 ∙ l.0) in
    (p.0 ∙ l.0, going_again _ _ h.1 h.0 _ _ _ _ _ _ _ _ _ l.1 k.long (k.at 2 (omega arith)) (k.at 5 (omega arith)) _ _ _ _ _ _ _ _ c.edge_at-e.ensures c.saturating_sub.ensures c.max-first.ensures c.within-kept.ensures c.max.ensures c.saturating_sub-in-loop-s.ensures c.min-last.ensures c.within-whole.ensures _ _ k.left c.max-till.ensures)

pub returns : goal.returns
returns c =
    let h = c.requires in
    let l = c.loop-s.invariant in
    let p = c.in-None.ensures.steps.1.0 in
    (end_kept _ _ h.1 h.0 _ _ _ _ _ _ _ l.1 (omega (arith, l.0, p)), end_whole _ _ h.1 h.0 _ _ _ _ _ _ _ l.1 (omega (arith, l.0, p)))
