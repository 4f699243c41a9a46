use Rattle.spec_rows.proofs.caption_rows.WalkLaws.{ass_start, ass_room_1, ass_room_2, ass_room_3, ass_same, ass_stop, ass_count, ass_at, ass_less, ass_again, ass_over}
use Rattle.caption_rows.proofs.walking.walk_ass.Goals as goal

pub loop-at-init : goal.loop-at-init
loop-at-init c = search ass_start

pub ass_turn-read-requires : goal.ass_turn-read-requires
ass_turn-read-requires c = (search ass_room_1, (search ass_room_2, search ass_room_3))

pub shape_of-rows-then-said-ne0 : goal.shape_of-rows-then-said-ne0
shape_of-rows-then-said-ne0 c = search ass_same

pub returns-then-said-ne0 : goal.returns-then-said-ne0
returns-then-said-ne0 c = search ass_stop

pub counted-captions-requires : goal.counted-captions-requires
counted-captions-requires c = search ass_count

pub overflow_add-at : goal.overflow_add-at
overflow_add-at c = search ass_at

pub overflow_add-n : goal.overflow_add-n
overflow_add-n c = search ass_room_2

pub loop-at-smaller : goal.loop-at-smaller
loop-at-smaller c = search ass_less

pub loop-at-preserved : goal.loop-at-preserved
loop-at-preserved c = let s = c.ass_turn-read in let w = c.row_at-place.ensures in ass_again _ _ _ _ _ _ _ _ _ _ c.loop-at.invariant _ c.loop-at-test.true c.line_at-line.ensures s.result.said s.result.columns s.ensures.said s.ensures.columns _ _ _ c.if-said-ne0.false w.0 w.1 c.counted-captions.ensures

pub shape_of-rows : goal.shape_of-rows
shape_of-rows c = search ass_same

pub returns : goal.returns
returns c = search ass_over
