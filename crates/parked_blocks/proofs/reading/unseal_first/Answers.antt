use Rattle.std.proofs.Common.{rules}
use Rattle.spec_parked_blocks.proofs.parked_blocks.WriteLaws.{blocks_few}
use Rattle.spec_parked_blocks.proofs.parked_blocks.FirstLaws.{short_long, first_short, first_no, first_yes, first_copied, first_none}
use Rattle.parked_blocks.proofs.reading.unseal_first.Goals as goal
use Rattle.parked_blocks.proofs.reading.unseal_first.Goals.{else-room-ge8568-via-then-room-ge8568+else-short_row, else-room-ge8568-via-else-room-ge8568}

pub short_row-requires : goal.short_row-requires
short_row-requires c = search blocks_few

pub copy_room-requires : goal.copy_room-requires
copy_room-requires c = (search short_long, search blocks_few, search rules)

pub returns-then-short_row : goal.returns-then-short_row
returns-then-short_row c = (search first_yes, search first_copied)

pub returns-else-room-ge8568 : goal.returns-else-room-ge8568
returns-else-room-ge8568 c = elim c.else-room-ge8568.branch [
  | else-room-ge8568-via-then-room-ge8568+else-short_row w ↦ (search first_no, search first_none)
  | else-room-ge8568-via-else-room-ge8568 w ↦ (search first_short, search first_none)
]
