use mathlib.Core.Path.{refl, sym, ap, ◌∙◌}
use Rattle.spec_caption.specs.caption_fate.Grouped.{segments_by}
use Rattle.spec_ass.specs.ass_columns.Section.{bracketed}
use Rattle.spec_ass.proofs.ass_columns.SectionLaws.{trim_by}
use Rattle.spec_ass.proofs.ass_line.SayLaws.{line_section, line_events, line_other}
use Rattle.ass_line.proofs.LineForms.{line_refused}
use Rattle.ass_line.proofs.caption.line.Goals as goal

pub returns-then-out-text-clause-told : goal.returns-then-out-text-clause-told
returns-then-out-text-clause-told c = let whole = let a = c.args in line_refused a.config a.groups.now a.map.now a.columns a.n a.text.now _ a.out.now _ a.warnings.now _ c.then-out-text.either refl refl c.refused-told.ensures in whole.0

pub returns-then-out-text-clause-columns : goal.returns-then-out-text-clause-columns
returns-then-out-text-clause-columns c = let whole = let a = c.args in line_refused a.config a.groups.now a.map.now a.columns a.n a.text.now _ a.out.now _ a.warnings.now _ c.then-out-text.either refl refl c.refused-told.ensures in whole.1

pub returns-then-trims_to_section-clause-told : goal.returns-then-trims_to_section-clause-told
returns-then-trims_to_section-clause-told c = let whole = let a = c.args in line_section a.config (segments_by a.groups.now a.map.now) a.columns a.n a.text.now _ a.out.now _ a.warnings.now _ c.if-out-text.false c.if-warnings-lt4.false _ _ _ c.text_of.ensures (trim_by _ _ _ c.trim_head-s.ensures c.trim_tail.ensures) (c.trims_to_section.ensures ∙ ap bracketed (sym c.trim_tail.ensures)) _ _ c.if-trims_to_section.true c.names_events.ensures c.in_section-columns.ensures refl c.stayed-told.ensures in whole.0

pub returns-then-trims_to_section-clause-columns : goal.returns-then-trims_to_section-clause-columns
returns-then-trims_to_section-clause-columns c = let whole = let a = c.args in line_section a.config (segments_by a.groups.now a.map.now) a.columns a.n a.text.now _ a.out.now _ a.warnings.now _ c.if-out-text.false c.if-warnings-lt4.false _ _ _ c.text_of.ensures (trim_by _ _ _ c.trim_head-s.ensures c.trim_tail.ensures) (c.trims_to_section.ensures ∙ ap bracketed (sym c.trim_tail.ensures)) _ _ c.if-trims_to_section.true c.names_events.ensures c.in_section-columns.ensures refl c.stayed-told.ensures in whole.1

pub returns-then-columns-clause-told : goal.returns-then-columns-clause-told
returns-then-columns-clause-told c = let whole = let a = c.args in line_events a.config (segments_by a.groups.now a.map.now) a.columns a.n a.text.now _ a.out.now _ a.warnings.now _ c.if-out-text.false c.if-warnings-lt4.false _ _ _ c.text_of.ensures (trim_by _ _ _ c.trim_head-s.ensures refl) c.trims_to_section.ensures c.if-trims_to_section.false _ c.if-columns.true (c.event_line.ensures.told, c.event_line.ensures.columns) in whole.0

pub returns-then-columns-clause-columns : goal.returns-then-columns-clause-columns
returns-then-columns-clause-columns c = let whole = let a = c.args in line_events a.config (segments_by a.groups.now a.map.now) a.columns a.n a.text.now _ a.out.now _ a.warnings.now _ c.if-out-text.false c.if-warnings-lt4.false _ _ _ c.text_of.ensures (trim_by _ _ _ c.trim_head-s.ensures refl) c.trims_to_section.ensures c.if-trims_to_section.false _ c.if-columns.true (c.event_line.ensures.told, c.event_line.ensures.columns) in whole.1

pub returns-clause-told : goal.returns-clause-told
returns-clause-told c = let whole = let a = c.args in line_other a.config (segments_by a.groups.now a.map.now) a.columns a.n a.text.now _ a.out.now _ a.warnings.now _ c.if-out-text.false c.if-warnings-lt4.false _ _ _ c.text_of.ensures (trim_by _ _ _ c.trim_head-s.ensures refl) c.trims_to_section.ensures c.if-trims_to_section.false c.if-columns.false refl c.stayed-told-2.ensures in whole.0

pub returns-clause-columns : goal.returns-clause-columns
returns-clause-columns c = let whole = let a = c.args in line_other a.config (segments_by a.groups.now a.map.now) a.columns a.n a.text.now _ a.out.now _ a.warnings.now _ c.if-out-text.false c.if-warnings-lt4.false _ _ _ c.text_of.ensures (trim_by _ _ _ c.trim_head-s.ensures refl) c.trims_to_section.ensures c.if-trims_to_section.false c.if-columns.false refl c.stayed-told-2.ensures in whole.1
