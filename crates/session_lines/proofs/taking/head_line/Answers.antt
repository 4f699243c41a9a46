use mathlib.Core.Path.{ap}
use mathlib.Core.Bool.{not}
use mathlib.Core.Path.{◌≡◌, sym, ◌∙◌}
use mathlib.Core.Bool.{true, false}
use borrow.Author.Tests.{not-true, not-false}
use Rattle.spec_text.specs.utf8.Utf8.{utf8}
use Rattle.spec_caption.specs.caption_fate.Grouped.{segments_by}
use Rattle.spec_cue.specs.block_timing.Header.{is_header}
use Rattle.spec_session.proofs.session_lines.TellLaws.{head_20, head_24, head_said_lem}
use Rattle.session_lines.proofs.taking.head_line.Goals as goal

pub returns-then-not-is_utf8 : goal.returns-then-not-is_utf8
returns-then-not-is_utf8 c = let a = c.args in let u : utf8 a.line.now ≡ false = sym c.is_utf8.ensures ∙ not-true _ (ap not c.if-not-is_utf8.true) in head_20 a.at.config (segments_by a.at.groups.now a.at.map.now) a.at.counts a.at.columns a.line.now _ _ _ u c.quiet.ensures

pub returns-then-not-is_header : goal.returns-then-not-is_header
returns-then-not-is_header c = let a = c.args in let u : utf8 a.line.now ≡ true = sym c.is_utf8.ensures ∙ not-false _ (ap not c.if-not-is_utf8.false) in let i : is_header a.line.now ≡ false = sym c.is_header.ensures ∙ not-true _ (ap not c.if-not-is_header.true) in head_24 a.at.config (segments_by a.at.groups.now a.at.map.now) a.at.counts a.at.columns a.line.now _ _ _ u i c.quiet-then-not-is_header.ensures

pub returns : goal.returns
returns c = let a = c.args in let u : utf8 a.line.now ≡ true = sym c.is_utf8.ensures ∙ not-false _ (ap not c.if-not-is_utf8.false) in let i : is_header a.line.now ≡ true = sym c.is_header.ensures ∙ not-false _ (ap not c.if-not-is_header.false) in let y = c.put_at-written.ensures in head_said_lem a.at.config (segments_by a.at.groups.now a.at.map.now) a.at.counts a.at.columns a.line.now _ _ _ _ _ _ u i c.requires.room_long c.still.ensures y.0 y.1 c.blank.ensures
