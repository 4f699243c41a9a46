use Rattle.spec_session.proofs.session_lines.TellLaws.{end_empty, end_fault, end_said, end_fits, still_small}
use mathlib.Core.Path.{refl, sym, ◌∙◌}
use borrow.Author.Tests.{eqb-true, eqb-false}
use Rattle.spec_caption.specs.caption_fate.Grouped.{segments_by}
use Rattle.session_lines.proofs.closing.close_block.Goals as goal

pub returns-then-is_empty-clause-end_tells : goal.returns-then-is_empty-clause-end_tells
returns-then-is_empty-clause-end_tells c = let a = c.args in end_empty a.config (segments_by a.groups.now a.map.now) a.n a.counts a.block.now _ a.out.now a.warnings.now (eqb-true _ 0 (sym c.is_empty.ensures ∙ c.if-is_empty.true)) c.still.ensures

pub returns-then-is_empty-clause-written_bound : goal.returns-then-is_empty-clause-written_bound
returns-then-is_empty-clause-written_bound c = let a = c.args in still_small _ _ _ _ c.still.ensures

pub returns-then-told-ne0-clause-end_tells : goal.returns-then-told-ne0-clause-end_tells
returns-then-told-ne0-clause-end_tells c = let a = c.args in let r = c.requires in end_fault a.config (segments_by a.groups.now a.map.now) a.n a.counts a.block.now _ _ _ a.out.now _ a.warnings.now _ r.room_long r.places_long (eqb-false _ 0 (sym c.is_empty.ensures ∙ c.if-is_empty.false)) refl refl c.block-told.ensures _ c.if-told-ne0.true c.still-then-told-ne0.ensures

pub returns-then-told-ne0-clause-written_bound : goal.returns-then-told-ne0-clause-written_bound
returns-then-told-ne0-clause-written_bound c = let a = c.args in let r = c.requires in still_small _ _ _ _ c.still-then-told-ne0.ensures

pub returns-clause-end_tells : goal.returns-clause-end_tells
returns-clause-end_tells c = let a = c.args in let r = c.requires in let b = c.block-told in end_said a.config (segments_by a.groups.now a.map.now) a.n a.counts a.block.now _ _ _ a.out.now _ a.warnings.now _ r.room_long r.places_long (eqb-false _ 0 (sym c.is_empty.ensures ∙ c.if-is_empty.false)) refl refl b.ensures _ c.if-told-ne0.false c.count.ensures

pub returns-clause-written_bound : goal.returns-clause-written_bound
returns-clause-written_bound c = let a = c.args in let r = c.requires in let b = c.block-told in end_fits a.config (segments_by a.groups.now a.map.now) a.n a.counts a.block.now _ _ _ _ _ _ b.ensures
