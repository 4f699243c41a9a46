use mathlib.Core.Path.{ap}
use mathlib.Core.Bool.{not}
use mathlib.Core.Path.{◌≡◌, sym, ◌∙◌}
use mathlib.Core.Bool.{true, false}
use borrow.Author.Tests.{not-true, not-false}
use Rattle.spec_text.specs.utf8.Utf8.{utf8}
use Rattle.spec_caption.specs.caption_fate.Grouped.{segments_by}
use Rattle.spec_session.proofs.session_lines.TellLaws.{ass_20, ass_fault_lem, ass_said_lem}
use Rattle.session_lines.proofs.taking.ass_line.Goals as goal

pub returns-then-not-is_utf8 : goal.returns-then-not-is_utf8
returns-then-not-is_utf8 c = let a = c.args in let u : utf8 a.line.now ≡ false = sym c.is_utf8.ensures ∙ not-true _ (ap not c.if-not-is_utf8.true) in ass_20 a.at.config (segments_by a.at.groups.now a.at.map.now) a.at.n a.at.counts a.at.columns a.line.now _ _ _ u c.quiet.ensures

pub returns-then-told-ne0 : goal.returns-then-told-ne0
returns-then-told-ne0 c = let a = c.args in let r = c.requires in let u : utf8 a.line.now ≡ true = sym c.is_utf8.ensures ∙ not-false _ (ap not c.if-not-is_utf8.false) in ass_fault_lem a.at.config (segments_by a.at.groups.now a.at.map.now) a.at.n a.at.counts a.at.columns a.line.now _ _ _ _ _ _ r.room_long r.places_long u c.line-said.ensures.told c.if-told-ne0.true c.quiet-then-told-ne0.ensures

pub returns : goal.returns
returns c = let a = c.args in let r = c.requires in let l = c.line-said in let u : utf8 a.line.now ≡ true = sym c.is_utf8.ensures ∙ not-false _ (ap not c.if-not-is_utf8.false) in ass_said_lem a.at.config (segments_by a.at.groups.now a.at.map.now) a.at.n a.at.counts a.at.columns a.line.now _ _ _ _ _ _ _ r.room_long r.places_long u l.ensures.told c.if-told-ne0.false l.ensures.columns c.count.ensures
