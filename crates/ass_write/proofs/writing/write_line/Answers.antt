use native.Mathlib.Omega.{arith}
use Rattle.spec_base.proofs.base.PutLaws.{at_back, placed_room}
use Rattle.spec_ass.proofs.ass_write.WriteLaws.{after_room, frame_room, line_written}
use Rattle.ass_write.proofs.writing.write_line.Goals as goal

pub write_fields-last-requires : goal.write_fields-last-requires
write_fields-last-requires c = after_room _ _ _ _ _ (omega arith) c.put_at-first.ensures

pub slice_bounds-put-count : goal.slice_bounds-put-count
slice_bounds-put-count c = omega (arith, frame_room _ _ _ _ _ _ (after_room _ _ _ _ _ (omega arith) c.put_at-first.ensures) c.write_fields-last.ensures.0)

pub slice_bounds-put-start : goal.slice_bounds-put-start
slice_bounds-put-start c = omega (arith, frame_room _ _ _ _ _ _ (after_room _ _ _ _ _ (omega arith) c.put_at-first.ensures) c.write_fields-last.ensures.0)

pub overflow_add-result : goal.overflow_add-result
overflow_add-result c = omega (arith, frame_room _ _ _ _ _ _ (after_room _ _ _ _ _ (omega arith) c.put_at-first.ensures) c.write_fields-last.ensures.0, placed_room _ _ _ c.put.ensures.0, c.well_formed)

pub returns : goal.returns
returns c =
    let r = frame_room _ _ _ _ _ _ (after_room _ _ _ _ _ (omega arith) c.put_at-first.ensures) c.write_fields-last.ensures.0 in
    line_written _ _ _ _ _ _ _ _ _ _ _ _ _ _ _ c.put_at-first.ensures c.write_fields-last.ensures (at_back _ _ _ _ _ (omega (arith, r)) c.put.ensures.0 c.put.ensures.1)
