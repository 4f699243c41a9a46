use Rattle.spec_caption.specs.caption_fate.Grouped.{segments_by}
use Rattle.spec_ass.proofs.ass_line.SayLaws.{times_1, times_2, times_room, times_3}
use Rattle.ass_line.proofs.caption.timed.Goals as goal

pub returns-in_default : goal.returns-in_default
returns-in_default c = let a = c.args in times_1 a.cut.config (segments_by a.cut.groups.now a.cut.map.now) a.columns a.n a.text.now a.word.now a.rest.now _ _ c.field.ensures c.read_time.ensures _ _ _ c.in_default.is c.refused.ensures

pub returns-in_default-read_time : goal.returns-in_default-read_time
returns-in_default-read_time c = let a = c.args in times_2 a.cut.config (segments_by a.cut.groups.now a.cut.map.now) a.columns a.n a.text.now a.word.now a.rest.now _ _ c.field.ensures c.read_time.ensures _ _ c.field-2.ensures c.read_time-2.ensures _ _ c.in-Some.is _ _ _ c.in_default-read_time.is c.refused-in_default-read_time.ensures

pub settle-requires : goal.settle-requires
settle-requires c = let a = c.args in (times_room a.cut.config (segments_by a.cut.groups.now a.cut.map.now) a.columns a.n a.text.now a.word.now a.rest.now _ _ c.field.ensures c.read_time.ensures _ _ c.field-2.ensures c.read_time-2.ensures _ _ c.in-Some.is _ _ c.in-Some-read_time.is _ c.terminator_of-ending.ensures a.out.now c.requires.0 c.requires.1.1.0 c.requires.1.1.1, c.requires.1.0)

pub returns : goal.returns
returns c = let a = c.args in times_3 a.cut.config (segments_by a.cut.groups.now a.cut.map.now) a.columns a.n a.text.now a.word.now a.rest.now _ _ c.field.ensures c.read_time.ensures _ _ c.field-2.ensures c.read_time-2.ensures _ _ c.in-Some.is _ _ c.in-Some-read_time.is _ c.terminator_of-ending.ensures _ _ _ _ _ c.settle.ensures
