use Prim.Native.Nat.{◌≤◌}
use native.Mathlib.Omega.{arith}
use Rattle.spec_parked_blocks.proofs.parked_blocks.WriteLaws.{blocks_few}
use Rattle.spec_parking.proofs.parking.HeadLaws.{in_16, copied_16, in_27, copied_is, in_row, in_shows, in_rest, in_0, in_unsound}
use Rattle.parking.proofs.taking.refusal_in.Goals as goal

pub returns-then-room-lt8568 : goal.returns-then-room-lt8568
returns-then-room-lt8568 c = (search in_16, search copied_16)

pub overflow_mul-k : goal.overflow_mul-k
overflow_mul-k c = let h : c.blocks_for-k.result ≤ 17 = search blocks_few in omega arith

pub is_parked-requires : goal.is_parked-requires
is_parked-requires c = (search in_row, search in_shows, search in_rest)

pub returns-then-is_parked : goal.returns-then-is_parked
returns-then-is_parked c = (search in_0, search copied_is)

pub returns-else-is_parked : goal.returns-else-is_parked
returns-else-is_parked c = (search in_unsound, search copied_is)

pub returns-else-unseal_first : goal.returns-else-unseal_first
returns-else-unseal_first c = (search in_27, search copied_is)
