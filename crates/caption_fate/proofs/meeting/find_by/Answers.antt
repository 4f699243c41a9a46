use mathlib.Core.Path.{◌≡◌}
use borrow.Author.Rules.{rules}
use lib.ListN.{length}
use Rattle.spec_caption.proofs.caption_fate.GroupedLaws.{by_none, by_some}
use Rattle.caption_fate.proofs.meeting.find_by.Goals as goal

pub returns-then-is_empty : goal.returns-then-is_empty
returns-then-is_empty c = let z : length c.args.groups.now ≡ 0 = search rules in search by_none

pub returns-else-is_empty : goal.returns-else-is_empty
returns-else-is_empty c = let z : length c.args.groups.now ≡ 0 → ⊥ = search rules in search by_some
