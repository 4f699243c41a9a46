use mathlib.Core.Path.{ap}
use mathlib.Core.Bool.{not}
use mathlib.Core.Path.{◌≡◌, sym, ◌∙◌}
use mathlib.Core.Bool.{true, false}
use borrow.Author.Tests.{not-true, not-false}
use Rattle.spec_text.specs.utf8.Utf8.{utf8}
use Rattle.spec_caption.specs.caption_fate.Grouped.{segments_by}
use Rattle.spec_cue.specs.block_timing.Style.{blank_in}
use Rattle.spec_session.proofs.session_lines.TellLaws.{srt_20, srt_22, srt_blank, srt_21, srt_add}
use Rattle.session_lines.proofs.taking.block_line.Goals as goal

pub returns-then-not-is_utf8 : goal.returns-then-not-is_utf8
returns-then-not-is_utf8 c = let a = c.args in let u : utf8 a.line.now ≡ false = sym c.is_utf8.ensures ∙ not-true _ (ap not c.if-not-is_utf8.true) in srt_20 a.at.config (segments_by a.at.groups.now a.at.map.now) a.at.n a.at.counts a.at.columns a.block.now a.line.now _ _ _ u c.quiet.ensures

pub returns-then-end-ne0 : goal.returns-then-end-ne0
returns-then-end-ne0 c = let a = c.args in let u : utf8 a.line.now ≡ true = sym c.is_utf8.ensures ∙ not-false _ (ap not c.if-not-is_utf8.false) in let i : blank_in a.at.config.kind a.line.now ≡ true = sym c.is_blank_in.ensures ∙ c.if-is_blank_in.true in srt_22 a.at.config (segments_by a.at.groups.now a.at.map.now) a.at.n a.at.counts a.at.columns a.block.now a.line.now _ _ _ _ _ _ u i c.close_block-end.ensures.end_tells c.if-end-ne0.true c.quiet-then-end-ne0.ensures

pub returns-then-is_blank_in : goal.returns-then-is_blank_in
returns-then-is_blank_in c = let a = c.args in let r = c.requires in let u : utf8 a.line.now ≡ true = sym c.is_utf8.ensures ∙ not-false _ (ap not c.if-not-is_utf8.false) in let i : blank_in a.at.config.kind a.line.now ≡ true = sym c.is_blank_in.ensures ∙ c.if-is_blank_in.true in let e = c.close_block-end in let y = c.put_at-written in srt_blank a.at.config (segments_by a.at.groups.now a.at.map.now) a.at.n a.at.counts a.at.columns a.block.now a.line.now e.result _ _ _ _ _ _ _ u i e.ensures.end_tells c.if-end-ne0.false r.room_long e.ensures.written_bound y.ensures.0 y.ensures.1 c.blank.ensures

pub returns-then-block-line-gt-MOST_BLOCK : goal.returns-then-block-line-gt-MOST_BLOCK
returns-then-block-line-gt-MOST_BLOCK c = let a = c.args in let u : utf8 a.line.now ≡ true = sym c.is_utf8.ensures ∙ not-false _ (ap not c.if-not-is_utf8.false) in let i : blank_in a.at.config.kind a.line.now ≡ false = sym c.is_blank_in.ensures ∙ c.if-is_blank_in.false in srt_21 a.at.config (segments_by a.at.groups.now a.at.map.now) a.at.n a.at.counts a.at.columns a.block.now a.line.now _ _ _ u i c.if-block-line-gt-MOST_BLOCK.true c.quiet-then-block-line-gt-MOST_BLOCK.ensures

pub returns : goal.returns
returns c = let a = c.args in let u : utf8 a.line.now ≡ true = sym c.is_utf8.ensures ∙ not-false _ (ap not c.if-not-is_utf8.false) in let i : blank_in a.at.config.kind a.line.now ≡ false = sym c.is_blank_in.ensures ∙ c.if-is_blank_in.false in srt_add a.at.config (segments_by a.at.groups.now a.at.map.now) a.at.n a.at.counts a.at.columns a.block.now a.line.now _ _ _ u i c.if-block-line-gt-MOST_BLOCK.false c.quiet-2.ensures
