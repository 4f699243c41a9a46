use native.Mathlib.Omega.{arith}
use Rattle.spec_rows.proofs.caption_rows.WalkLaws.{block_start, block_known, block_first_lem, block_room_1, block_room_2, block_room_3, block_room_4, block_same, last_same, block_stop, block_count, block_at, block_less, block_again, last_first, last_from, last_stop, last_over}
use Rattle.caption_rows.proofs.walking.walk_blocks.Goals as goal

pub loop-at-init : goal.loop-at-init
loop-at-init c = search block_start

pub block_turn-turn-requires : goal.block_turn-turn-requires
block_turn-turn-requires c = (search block_known, (search block_room_1, (search block_room_2, (search block_room_3, search block_room_4))))

pub shape_of-rows-then-said-ne0 : goal.shape_of-rows-then-said-ne0
shape_of-rows-then-said-ne0 c = search block_same

pub returns-then-said-ne0 : goal.returns-then-said-ne0
returns-then-said-ne0 c = search block_stop

pub counted-captions-requires : goal.counted-captions-requires
counted-captions-requires c = search block_count

pub overflow_add-at : goal.overflow_add-at
overflow_add-at c = let h = block_at _ _ _ _ _ _ _ _ _ _ _ _ _ _ c.loop-at.invariant _ c.between-block.ensures _ c.loop-at-test.true c.line_at-line.ensures in omega (arith, h)

pub overflow_add-n : goal.overflow_add-n
overflow_add-n c = search block_room_2

pub loop-at-smaller : goal.loop-at-smaller
loop-at-smaller c = block_less _ _ _ _ _ _ _ _ _ _ _ _ _ _ c.loop-at.invariant _ c.between-block.ensures _ c.loop-at-test.true c.line_at-line.ensures

pub loop-at-preserved : goal.loop-at-preserved
loop-at-preserved c = let s = c.block_turn-turn in let w = c.row_at-place.ensures in block_again _ _ _ _ _ _ _ _ _ _ _ _ _ _ c.loop-at.invariant _ c.between-block.ensures _ c.loop-at-test.true c.line_at-line.ensures s.result.said s.result.from s.result.first s.ensures.said s.ensures.from s.ensures.first c.if-said-ne0.false _ _ _ w.0 w.1 c.counted-captions.ensures

pub overflow_add-first : goal.overflow_add-first
overflow_add-first c = search block_first_lem

pub read_block-said-requires : goal.read_block-said-requires
read_block-said-requires c = (search block_known, (search last_first, search last_from))

pub shape_of-rows-then-said-ne0-2 : goal.shape_of-rows-then-said-ne0-2
shape_of-rows-then-said-ne0-2 c = search block_same

pub returns-then-said-ne0-2 : goal.returns-then-said-ne0-2
returns-then-said-ne0-2 c = search last_stop

pub counted-requires : goal.counted-requires
counted-requires c = search block_count

pub shape_of-rows : goal.shape_of-rows
shape_of-rows c = search last_same

pub returns : goal.returns
returns c = search last_over
