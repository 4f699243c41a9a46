use Rattle.spec_cue.specs.block_cue.Block.{block_frame}
use Rattle.spec_cue.specs.block_cue.BlockThrough.{number_in}
use Rattle.spec_cue.proofs.block_cue.BlockLaws.{keep_told}
use Rattle.block_cue.proofs.srt.keep.Goals as goal

pub returns : goal.returns
returns c = let A = c.args in keep_told _ (number_in A.site.last A.site.above A.site.block.now) A.old.start _ A.old.stop _ _ (block_frame A.parts.before.now A.parts.trailing.now A.parts.end.now A.parts.after.now) A.new _ _ _ _ _ _ _ c.counted_by-counted.ensures c.write_kept-written.ensures _ c.stamps_in-stamped.ensures c.warn-warned.ensures
