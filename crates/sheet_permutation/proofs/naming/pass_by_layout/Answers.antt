use Rattle.spec_sheet.proofs.sheet_frames.FrameLaws.{told_as}
use borrow.Author.Rules.{rules}
use Rattle.sheet_permutation.proofs.naming.pass_by_layout.Goals as goal

pub pass-requires : goal.pass-requires
pass-requires c = (search told_as, search rules, search rules)

pub pass-requires-else-long : goal.pass-requires-else-long
pass-requires-else-long c = (search told_as, search rules, search rules)
