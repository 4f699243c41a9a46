use Rattle.std.proofs.Common.{rules}
use Rattle.spec_parked_blocks.proofs.parked_blocks.ReadLaws.{row_length, unseal_short, unseal_no, unseal_yes, none_copied}
use Rattle.parked_blocks.proofs.reading.unseal.Goals as goal
use Rattle.parked_blocks.proofs.reading.unseal.Goals.{else-room-ge8568-via-then-room-ge8568+else-is_row, else-room-ge8568-via-else-room-ge8568}

pub copy_room-requires : goal.copy_room-requires
copy_room-requires c = (search row_length, search rules, search rules)

pub returns-then-is_row : goal.returns-then-is_row
returns-then-is_row c = (search unseal_yes, search rules)

pub returns-else-room-ge8568 : goal.returns-else-room-ge8568
returns-else-room-ge8568 c = elim c.else-room-ge8568.branch [
  | else-room-ge8568-via-then-room-ge8568+else-is_row w ↦ (search unseal_no, search none_copied)
  | else-room-ge8568-via-else-room-ge8568 w ↦ (search unseal_short, search none_copied)
]
