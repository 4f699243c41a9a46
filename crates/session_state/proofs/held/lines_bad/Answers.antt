use borrow.Author.Rules.{rules}
use mathlib.Core.Path.{refl}
use Rattle.spec_session.proofs.session_state.HeldLaws.{lines_hit, lines_again, lines_empty}
use Rattle.spec_text.proofs.text.LineLaws.{line_less}
use Rattle.session_state.proofs.held.lines_bad.Goals as goal

pub loop-t-init : goal.loop-t-init
loop-t-init c = refl

pub returns-then-line_bad : goal.returns-then-line_bad
returns-then-line_bad c = search (rules, lines_hit)

pub loop-t-smaller : goal.loop-t-smaller
loop-t-smaller c = search (rules, line_less)

pub loop-t-preserved : goal.loop-t-preserved
loop-t-preserved c = search (rules, lines_again)

pub returns : goal.returns
returns c = search (rules, lines_empty)
