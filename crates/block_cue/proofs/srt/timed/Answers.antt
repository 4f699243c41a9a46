use Rattle.spec_caption.specs.caption_fate.Grouped.{segments_by}
use Rattle.spec_cue.specs.block_cue.BlockThrough.{number_in}
use Rattle.spec_cue.proofs.block_cue.BlockLaws.{timed_bad, timed_both, timed_room}
use Rattle.block_cue.proofs.srt.timed.Goals as goal

pub settle-requires : goal.settle-requires
settle-requires c = let A = c.args in let p = c.requires in (timed_room A.cut.config (segments_by A.cut.groups.now A.cut.map.now) (number_in A.site.last A.site.above A.site.block.now) _ A.before.now A.line.now A.after.now _ _ _ _ _ _ _ c.text_of-text.ensures c.after_arrow-behind.ensures c.end_length-n.ensures c.rest.ensures c.terminator_of.ensures c.before_arrow.ensures c.front.ensures c.read_times.ensures _ c.in-Some.is A.out.now p.0, p.1, p.2)

pub returns-in-None : goal.returns-in-None
returns-in-None c = timed_bad _ _ _ _ _ _ _ _ _ _ _ _ _ _ c.text_of-text.ensures c.after_arrow-behind.ensures c.end_length-n.ensures c.rest.ensures c.terminator_of.ensures c.before_arrow.ensures c.front.ensures c.read_times.ensures _ _ _ c.in-None.is c.refused.ensures

pub returns-in-Some : goal.returns-in-Some
returns-in-Some c = timed_both _ _ _ _ _ _ _ _ _ _ _ _ _ _ c.text_of-text.ensures c.after_arrow-behind.ensures c.end_length-n.ensures c.rest.ensures c.terminator_of.ensures c.before_arrow.ensures c.front.ensures c.read_times.ensures _ c.in-Some.is _ _ _ _ _ c.settle.ensures
