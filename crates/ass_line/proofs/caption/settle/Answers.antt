use Rattle.spec_caption.specs.caption_fate.Decide.{decide_in}
use Rattle.spec_caption.specs.caption_fate.Grouped.{segments_by}
use Rattle.spec_ass.specs.ass_columns.Columns.{fields}
use Rattle.spec_ass.specs.ass_line.Line.{line_cue}
use Rattle.spec_caption.proofs.caption_fate.TellLaws.{settle_strange, settle_dropped, settle_kept}
use Rattle.ass_line.proofs.caption.settle.Goals as goal

pub returns-in-Strange : goal.returns-in-Strange
returns-in-Strange c =
    let a = c.args in
    settle_strange a.cut.config.kind (line_cue a.columns a.line a.parts.word.now (fields a.columns.columns a.parts.rest.now) a.parts.ending.now a.old.start a.old.start_mark a.old.stop a.old.stop_mark) (decide_in a.cut.config (segments_by a.cut.groups.now a.cut.map.now) a.old.start a.old.stop) _ c.decide.ensures _ _ _ c.in-Strange.is c.refused.ensures

pub returns-in-Dropped : goal.returns-in-Dropped
returns-in-Dropped c =
    let a = c.args in
    settle_dropped a.cut.config.kind (line_cue a.columns a.line a.parts.word.now (fields a.columns.columns a.parts.rest.now) a.parts.ending.now a.old.start a.old.start_mark a.old.stop a.old.stop_mark) (decide_in a.cut.config (segments_by a.cut.groups.now a.cut.map.now) a.old.start a.old.stop) _ c.decide.ensures _ _ c.in-Dropped.is

pub returns-in-Kept : goal.returns-in-Kept
returns-in-Kept c =
    let a = c.args in
    settle_kept a.cut.config.kind (line_cue a.columns a.line a.parts.word.now (fields a.columns.columns a.parts.rest.now) a.parts.ending.now a.old.start a.old.start_mark a.old.stop a.old.stop_mark) (decide_in a.cut.config (segments_by a.cut.groups.now a.cut.map.now) a.old.start a.old.stop) _ c.decide.ensures _ _ _ _ _ _ c.in-Kept.is c.keep.ensures
