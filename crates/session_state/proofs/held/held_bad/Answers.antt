use Rattle.std.proofs.Common.{rules, ◌≡◌, ◌∙◌, true, false, length}
use borrow.Author.Tests.{lt-ltb}
use Rattle.spec_base.specs.base.Limits.{most_line}
use Rattle.spec_machine.specs.kinds.Kit.{held_bad}
use Rattle.spec_session.proofs.session_state.HeldLaws.{held_long, held_rest}
use Rattle.session_state.proofs.held.held_bad.Goals as goal
use Rattle.session_state.proofs.held.held_bad.Goals.{then-e-gt-MOST_BLOCK, else-e-gt-MOST_BLOCK}

pub returns-then-held-gt-MOST_LINE : goal.returns-then-held-gt-MOST_LINE
returns-then-held-gt-MOST_LINE c =
    let h : true ≡ held_bad c.args.kind c.args.held.now = search held_long in
    lt-ltb most_line (length c.args.held.now) c.if-held-gt-MOST_LINE.true ∙ h

pub returns-else-lines_bad : goal.returns-else-lines_bad
returns-else-lines_bad c = elim c.if-e-gt-MOST_BLOCK.branch [ then-e-gt-MOST_BLOCK w ↦ search rules | else-e-gt-MOST_BLOCK w ↦ let no : w.lines_bad.result ≡ false = cc in search held_rest ]
