use Rattle.spec_rows.proofs.caption_rows.LineLaws.{section_s, section_c, events_s, events_c, other_s, other_c}
use Rattle.caption_rows.proofs.dialogue.read_line.Goals as goal

pub returns-then-is_section-clause-said : goal.returns-then-is_section-clause-said
returns-then-is_section-clause-said c = search section_s

pub returns-then-is_section-clause-columns : goal.returns-then-is_section-clause-columns
returns-then-is_section-clause-columns c = search section_c

pub returns-then-columns-clause-said : goal.returns-then-columns-clause-said
returns-then-columns-clause-said c = search events_s

pub returns-then-columns-clause-columns : goal.returns-then-columns-clause-columns
returns-then-columns-clause-columns c = search events_c

pub returns-clause-said : goal.returns-clause-said
returns-clause-said c = search other_s

pub returns-clause-columns : goal.returns-clause-columns
returns-clause-columns c = search other_c
