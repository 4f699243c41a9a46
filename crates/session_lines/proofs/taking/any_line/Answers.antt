use mathlib.Core.Path.{refl, sym, ◌∙◌}
use native.Mathlib.Omega.{arith}
use Rattle.spec_caption.specs.caption_fate.Grouped.{segments_by}
use lib.ListN.{length-take, length-drop}
use lib.Seq.{length-take-le}
use Rattle.spec_base.proofs.base.PartLaws.{rest_all}
use Rattle.spec_session.proofs.session_lines.TellLaws.{any_ass, any_srt, any_head}
use Rattle.session_lines.proofs.taking.any_line.Goals as goal

pub returns-then-at-eq0 : goal.returns-then-at-eq0
returns-then-at-eq0 c = let a = c.args in any_ass a.at.config (segments_by a.at.groups.now a.at.map.now) a.at.n a.at.counts a.at.columns a.held.now a.s a.a _ _ _ _ _ _ c.if-at-eq0.true (rest_all a.a a.held.now) c.ass_line.ensures

pub slice_bounds-header_due-end : goal.slice_bounds-header_due-end
slice_bounds-header_due-end c = sym (length-take-le _ _ (omega arith))

pub returns-then-header_due : goal.returns-then-header_due
returns-then-header_due c = let a = c.args in any_head a.at.config (segments_by a.at.groups.now a.at.map.now) a.at.n a.at.counts a.at.columns a.held.now a.s a.a _ _ _ _ _ _ _ c.if-at-eq0.false refl (rest_all a.a a.held.now) (sym c.header_due.ensures ∙ c.if-header_due.true) c.head_line.ensures

pub slice_bounds-block_line-end : goal.slice_bounds-block_line-end
slice_bounds-block_line-end c = sym (length-take-le _ _ (omega arith))

pub block_line-requires : goal.block_line-requires
block_line-requires c = let r = c.requires in record { counts = r.0.counts; room_long = simp (length-take, length-drop) (omega arith); places_long = omega arith }

pub returns : goal.returns
returns c = let a = c.args in any_srt a.at.config (segments_by a.at.groups.now a.at.map.now) a.at.n a.at.counts a.at.columns a.held.now a.s a.a _ _ _ _ _ _ _ c.if-at-eq0.false refl (rest_all a.a a.held.now) (sym c.header_due.ensures ∙ c.if-header_due.false) c.block_line.ensures
