use Rattle.refusals.proofs.Laws.{refused_not_0}
use Rattle.spec_rows.proofs.caption_rows.TurnLaws.{turn_fault, fault_from, fault_first, turn_blank, blank_from, blank_first, turn_long, turn_more, open_from, open_first}
use Rattle.caption_rows.proofs.walking.block_turn.Goals as goal

pub returns-in-Err-clause-said : goal.returns-in-Err-clause-said
returns-in-Err-clause-said c = search (turn_fault, refused_not_0, c.in-Err.ensures)

pub returns-in-Err-clause-from : goal.returns-in-Err-clause-from
returns-in-Err-clause-from c = search (fault_from, refused_not_0, c.in-Err.ensures)

pub returns-in-Err-clause-first : goal.returns-in-Err-clause-first
returns-in-Err-clause-first c = search (fault_first, refused_not_0, c.in-Err.ensures)

pub returns-then-is_blank_in-clause-said : goal.returns-then-is_blank_in-clause-said
returns-then-is_blank_in-clause-said c = search (turn_blank, c.in_default.ensures)

pub returns-then-is_blank_in-clause-from : goal.returns-then-is_blank_in-clause-from
returns-then-is_blank_in-clause-from c = search (blank_from, c.in_default.ensures)

pub returns-then-is_blank_in-clause-first : goal.returns-then-is_blank_in-clause-first
returns-then-is_blank_in-clause-first c = search (blank_first, c.in_default.ensures)

pub returns-then-block-line-gt-MOST_BLOCK-clause-said : goal.returns-then-block-line-gt-MOST_BLOCK-clause-said
returns-then-block-line-gt-MOST_BLOCK-clause-said c = search (turn_long, c.in_default.ensures)

pub returns-then-block-line-gt-MOST_BLOCK-clause-from : goal.returns-then-block-line-gt-MOST_BLOCK-clause-from
returns-then-block-line-gt-MOST_BLOCK-clause-from c = search (open_from, c.in_default.ensures)

pub returns-then-block-line-gt-MOST_BLOCK-clause-first : goal.returns-then-block-line-gt-MOST_BLOCK-clause-first
returns-then-block-line-gt-MOST_BLOCK-clause-first c = search (open_first, c.in_default.ensures)

pub returns-clause-said : goal.returns-clause-said
returns-clause-said c = search (turn_more, c.in_default.ensures)

pub returns-clause-from : goal.returns-clause-from
returns-clause-from c = search (open_from, c.in_default.ensures)

pub returns-clause-first : goal.returns-clause-first
returns-clause-first c = search (open_first, c.in_default.ensures)
