use Rattle.refusals.proofs.Laws.{refused_not_0}
use Rattle.spec_rows.proofs.caption_rows.TurnLaws.{fault_s, fault_c, read_s, read_c, ass_room}
use borrow.Author.Rules.{rules}
use Rattle.caption_rows.proofs.walking.ass_turn.Goals as goal

pub returns-in-Err-clause-said : goal.returns-in-Err-clause-said
returns-in-Err-clause-said c = search (fault_s, refused_not_0, c.in-Err.ensures)

pub returns-in-Err-clause-columns : goal.returns-in-Err-clause-columns
returns-in-Err-clause-columns c = search (fault_c, refused_not_0, c.in-Err.ensures)

pub read_line-requires : goal.read_line-requires
read_line-requires c = (search rules, search ass_room)

pub returns-clause-said : goal.returns-clause-said
returns-clause-said c = search (read_s, c.in_default.ensures)

pub returns-clause-columns : goal.returns-clause-columns
returns-clause-columns c = search (read_c, c.in_default.ensures)
