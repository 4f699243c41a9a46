use mathlib.Core.Path.{refl}
use lib.ListN.{length, drop}
use Rattle.spec_text.specs.text.Line.{text_of}
use Rattle.spec_caption.specs.caption_fate.Grouped.{segments_by}
use Rattle.spec_ass.proofs.ass_line.SayLaws.{told_1, told_2, told_times, rest_is, parts_room}
use Rattle.ass_line.proofs.LineForms.{caption_unplaced}
use Rattle.ass_line.proofs.caption.caption.Goals as goal

pub returns-then-columns-eq0 : goal.returns-then-columns-eq0
returns-then-columns-eq0 c = let a = c.args in told_1 a.cut.config (segments_by a.cut.groups.now a.cut.map.now) a.columns a.line a.text.now a.word.now (drop (length a.word.now) (text_of a.text.now)) _ _ _ _ _ (caption_unplaced _ _ _ _ _ c.then-columns-eq0.either) c.passing.ensures

pub timed-requires : goal.timed-requires
timed-requires c = let a = c.args in (c.requires.0, (c.requires.1.0, (c.requires.1.1.0, parts_room a.text.now _ a.word.now _ _ c.text_of.ensures refl c.rest-rest.ensures c.requires.1.1.1)))

pub returns-then-enough : goal.returns-then-enough
returns-then-enough c = let a = c.args in told_times a.cut.config (segments_by a.cut.groups.now a.cut.map.now) a.columns a.line a.text.now a.word.now (drop (length a.word.now) (text_of a.text.now)) _ _ _ _ _ _ (rest_is a.text.now _ a.word.now _ c.text_of.ensures c.rest-rest.ensures) _ c.enough.ensures c.if-columns-eq0.false c.if-columns-eq0-2.false c.if-enough.true c.timed.ensures

pub returns-else-enough : goal.returns-else-enough
returns-else-enough c = let a = c.args in told_2 a.cut.config (segments_by a.cut.groups.now a.cut.map.now) a.columns a.line a.text.now a.word.now (drop (length a.word.now) (text_of a.text.now)) _ _ _ _ _ _ (rest_is a.text.now _ a.word.now _ c.text_of.ensures c.rest-rest.ensures) _ c.enough.ensures c.if-columns-eq0.false c.if-columns-eq0-2.false c.if-enough.false c.passing-else-enough.ensures
