use Rattle.spec_rows.proofs.caption_rows.WalkLaws.{mark_in_lem, mark_small, kind_some, walk_0, walk_1, walk_2}
use borrow.Author.Rules.{rules}
use Rattle.caption_rows.proofs.RowForms.{two_some}
use Rattle.caption_rows.proofs.walking.walk.Goals as goal

pub walk_ass-requires : goal.walk_ass-requires
walk_ass-requires c = (search mark_in_lem, search rules)

pub returns-in-0 : goal.returns-in-0
returns-in-0 c = search walk_0

pub walk_vtt-requires : goal.walk_vtt-requires
walk_vtt-requires c = (search mark_small, (search mark_in_lem, search rules))

pub returns-in-2 : goal.returns-in-2
returns-in-2 c = search (walk_2, two_some)

pub walk_blocks-requires : goal.walk_blocks-requires
walk_blocks-requires c = (search kind_some, (search mark_small, (search rules, (search mark_in_lem, search rules))))

pub returns-in_default : goal.returns-in_default
returns-in_default c = search walk_1
