use Rattle.spec_rows.proofs.caption_rows.LineLaws.{word_1s, word_1c, word_2s, word_2c, word_3s, word_3c, word_4s, word_4c}
use Rattle.caption_rows.proofs.dialogue.event_line.Goals as goal

pub returns-then-starts_with-clause-said : goal.returns-then-starts_with-clause-said
returns-then-starts_with-clause-said c = search word_1s

pub returns-then-starts_with-clause-columns : goal.returns-then-starts_with-clause-columns
returns-then-starts_with-clause-columns c = search word_1c

pub returns-then-starts_with-2-clause-said : goal.returns-then-starts_with-2-clause-said
returns-then-starts_with-2-clause-said c = search word_2s

pub returns-then-starts_with-2-clause-columns : goal.returns-then-starts_with-2-clause-columns
returns-then-starts_with-2-clause-columns c = search word_2c

pub returns-then-starts_with-3-clause-said : goal.returns-then-starts_with-3-clause-said
returns-then-starts_with-3-clause-said c = search word_3s

pub returns-then-starts_with-3-clause-columns : goal.returns-then-starts_with-3-clause-columns
returns-then-starts_with-3-clause-columns c = search word_3c

pub returns-clause-said : goal.returns-clause-said
returns-clause-said c = search word_4s

pub returns-clause-columns : goal.returns-clause-columns
returns-clause-columns c = search word_4c
