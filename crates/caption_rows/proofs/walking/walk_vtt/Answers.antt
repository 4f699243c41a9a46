use Rattle.refusals.proofs.Laws.{refused_not_0}
use Rattle.spec_rows.proofs.caption_rows.WalkLaws.{vtt_none, vtt_fault, vtt_head, vtt_other, header_past, vtt_inside}
use borrow.Author.Rules.{rules}
use Rattle.caption_rows.proofs.walking.walk_vtt.Goals as goal

pub returns-then-text-mark : goal.returns-then-text-mark
returns-then-text-mark c = search vtt_none

pub returns-in-Err : goal.returns-in-Err
returns-in-Err c = search (vtt_fault, refused_not_0, c.in-Err.ensures)

pub walk_blocks-requires : goal.walk_blocks-requires
walk_blocks-requires c = (search rules, (search rules, (search header_past, (search vtt_inside, search rules))))

pub returns-then-is_header : goal.returns-then-is_header
returns-then-is_header c = search (vtt_head, c.in_default.ensures)

pub returns-else-is_header : goal.returns-else-is_header
returns-else-is_header c = search (vtt_other, c.in_default.ensures)
