use native.Mathlib.Omega.{arith}
use Rattle.spec_base.proofs.base.PutLaws.{at_back, placed_room}
use Rattle.spec_ass.proofs.ass_write.WriteLaws.{after_room}
use Rattle.ass_write.proofs.FieldLoop.{going_all, going_room, going_done, going_again, going_none}
use Rattle.ass_write.proofs.writing.write_fields.Goals as goal

pub loop-k-init : goal.loop-k-init
loop-k-init c = search going_all

pub slice_bounds-put-count : goal.slice_bounds-put-count
slice_bounds-put-count c = going_room _ _ _ _ _ _ _ _ _ _ _ _ c.loop-k-test.true c.loop-k.invariant

pub slice_bounds-put-start : goal.slice_bounds-put-start
slice_bounds-put-start c = going_room _ _ _ _ _ _ _ _ _ _ _ _ c.loop-k-test.true c.loop-k.invariant

pub overflow_add-at : goal.overflow_add-at
overflow_add-at c = omega (arith, placed_room _ _ _ c.put-at.ensures.0, going_room _ _ _ _ _ _ _ _ _ _ _ _ c.loop-k-test.true c.loop-k.invariant)

pub returns-then-t-n : goal.returns-then-t-n
returns-then-t-n c = let p = at_back _ _ _ _ _ (going_room _ _ _ _ _ _ _ _ _ _ _ _ c.loop-k-test.true c.loop-k.invariant) c.put-at.ensures.0 c.put-at.ensures.1 in going_done _ _ _ _ _ _ _ _ _ _ _ _ _ _ _ _ _ c.loop-k-test.true c.loop-k.invariant c.field_length-n.ensures c.front.ensures c.column_text-text.ensures p.0 p.1 c.if-t-n.true

pub slice_bounds-put-count-in-loop-k : goal.slice_bounds-put-count-in-loop-k
slice_bounds-put-count-in-loop-k c = omega (arith, placed_room _ _ _ c.put-at.ensures.0, going_room _ _ _ _ _ _ _ _ _ _ _ _ c.loop-k-test.true c.loop-k.invariant)

pub slice_bounds-put-start-in-loop-k : goal.slice_bounds-put-start-in-loop-k
slice_bounds-put-start-in-loop-k c = omega (arith, placed_room _ _ _ c.put-at.ensures.0, going_room _ _ _ _ _ _ _ _ _ _ _ _ c.loop-k-test.true c.loop-k.invariant)

pub overflow_add-at-in-loop-k : goal.overflow_add-at-in-loop-k
overflow_add-at-in-loop-k c = omega (arith, placed_room _ _ _ c.put-at-in-loop-k.ensures.0, placed_room _ _ _ c.put-at.ensures.0, going_room _ _ _ _ _ _ _ _ _ _ _ _ c.loop-k-test.true c.loop-k.invariant, c.well_formed)

pub loop-k-preserved : goal.loop-k-preserved
loop-k-preserved c =
    let r = going_room _ _ _ _ _ _ _ _ _ _ _ _ c.loop-k-test.true c.loop-k.invariant in
    let p = at_back _ _ _ _ _ r c.put-at.ensures.0 c.put-at.ensures.1 in
    let q = at_back _ _ _ _ _ (after_room _ _ _ _ _ r p) c.put-at-in-loop-k.ensures.0 c.put-at-in-loop-k.ensures.1 in
    going_again _ _ _ _ _ _ _ _ _ _ _ _ _ _ _ _ _ c.loop-k-test.true c.loop-k.invariant c.field_length-n.ensures c.front.ensures c.column_text-text.ensures p.0 p.1 _ _ _ c.if-t-n.false q.0 q.1 c.rest-t.ensures

pub returns : goal.returns
returns c = going_none _ _ _ _ _ _ _ _ _ _ _ _ c.loop-k.invariant c.loop-k-test.false
