use Rattle.std.proofs.Common.{rules}
use Rattle.spec_parked_blocks.proofs.parked_blocks.WriteLaws.{seal_short, seal_head, seal_held, seal_all, blocks_few}
use Rattle.parked_blocks.proofs.writing.seal_first.Goals.{else-out-ge9216-via-then-out-ge9216+then-head-le504+else-held-le8568, else-out-ge9216-via-then-out-ge9216+else-head-le504, else-out-ge9216-via-else-out-ge9216}
use Rattle.parked_blocks.proofs.writing.seal_first.Goals as goal

pub put_first-requires : goal.put_first-requires
put_first-requires c = (search rules, search rules, search rules, search blocks_few)

pub returns-then-held-le8568 : goal.returns-then-held-le8568
returns-then-held-le8568 c = search seal_all

pub returns-else-out-ge9216 : goal.returns-else-out-ge9216
returns-else-out-ge9216 c = elim c.else-out-ge9216.branch [ else-out-ge9216-via-then-out-ge9216+then-head-le504+else-held-le8568 w ↦ search seal_held | else-out-ge9216-via-then-out-ge9216+else-head-le504 w ↦ search seal_head | else-out-ge9216-via-else-out-ge9216 w ↦ search seal_short ]
