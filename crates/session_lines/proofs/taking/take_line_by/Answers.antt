use Rattle.spec_session.proofs.session_lines.LentLaws.{line_lent, lent_asked}
use borrow.Author.Rules.{rules}
use Rattle.session_lines.proofs.taking.take_line_by.Goals as goal

pub take_held-requires : goal.take_held-requires
take_held-requires c = (search lent_asked, search rules)

pub returns : goal.returns
returns c = search line_lent
