use Rattle.spec_cue.specs.block_cue.Block.{block_cue}
use Rattle.spec_cue.specs.block_cue.BlockThrough.{number_in}
use Rattle.spec_cue.specs.block_timing.Style.{stamps_in}
use Rattle.spec_cue.specs.block_cue.Block.{block_frame}
use Rattle.spec_caption.proofs.caption_fate.TellLaws.{settle_strange, settle_dropped, settle_kept}
use Rattle.block_cue.proofs.srt.settle.Goals as goal

pub returns-in-Strange : goal.returns-in-Strange
returns-in-Strange c =
    let a = c.args in
    settle_strange _ (block_cue (number_in a.site.last a.site.above a.site.block.now) a.old.start a.old.start_mark a.old.stop a.old.stop_mark (stamps_in a.cut.config.kind a.parts.after.now) (block_frame a.parts.before.now a.parts.trailing.now a.parts.end.now a.parts.after.now)) _ _ c.decide.ensures _ _ _ c.in-Strange.is c.refused.ensures

pub returns-in-Dropped : goal.returns-in-Dropped
returns-in-Dropped c =
    let a = c.args in
    settle_dropped _ (block_cue (number_in a.site.last a.site.above a.site.block.now) a.old.start a.old.start_mark a.old.stop a.old.stop_mark (stamps_in a.cut.config.kind a.parts.after.now) (block_frame a.parts.before.now a.parts.trailing.now a.parts.end.now a.parts.after.now)) _ _ c.decide.ensures _ _ c.in-Dropped.is

pub returns-in-Kept : goal.returns-in-Kept
returns-in-Kept c =
    let a = c.args in
    settle_kept _ (block_cue (number_in a.site.last a.site.above a.site.block.now) a.old.start a.old.start_mark a.old.stop a.old.stop_mark (stamps_in a.cut.config.kind a.parts.after.now) (block_frame a.parts.before.now a.parts.trailing.now a.parts.end.now a.parts.after.now)) _ _ c.decide.ensures _ _ _ _ _ _ c.in-Kept.is c.keep.ensures
