use Rattle.spec_session.proofs.session_lines.LentLaws.{end_16, end_24, lent_asked}
use Rattle.spec_session.proofs.session_lines.PlainLaws.{end_plain}
use Rattle.session_lines.proofs.closing.end_block.Goals as goal

pub returns-then-lent_bad : goal.returns-then-lent_bad
returns-then-lent_bad c = search end_16

pub returns-then-header_due : goal.returns-then-header_due
returns-then-header_due c = search end_24 depth 12

pub close_block-requires : goal.close_block-requires
close_block-requires c = search lent_asked

pub returns : goal.returns
returns c = search end_plain depth 12
