use mathlib.Core.Path.{◌≡◌}
use Prim.Native.Nat.{◌+◌, ◌*◌}
use borrow.Author.Rules.{rules}
use lib.ListN.{length}
use Rattle.spec_base.proofs.base.PartLaws.{rest_all}
use Rattle.spec_caption.proofs.caption_fate.GroupedLaws.{lost_plain}
use Rattle.caption_fate.proofs.retiming.lost_behind.Goals as goal

pub returns-then-is_empty : goal.returns-then-is_empty
returns-then-is_empty c = let z : length c.args.groups.now ≡ 0 = search rules in lost_plain _ _ _ _ _ _ _ z (rest_all (6 * c.args.place + 6) c.args.map.now) c.lost_rule.ensures
