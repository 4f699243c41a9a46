use Rattle.std.proofs.Common.{◌≡◌, ◌*◌, length}
use Rattle.spec_base.specs.base.Put.{put}
use Rattle.spec_parked_blocks.specs.parked_blocks.Sealed.{bodies}
use Rattle.parked_blocks.proofs.reading.copy_room.Given as goal

abbrev pub invariant-loop-n : goal.invariant-loop-n
invariant-loop-n l = (l.at ≡ 504 * l.n) × (l.room ≡ put (bodies l.s 1 l.n) l.initial.room) × (length l.room ≡ length l.initial.room)
