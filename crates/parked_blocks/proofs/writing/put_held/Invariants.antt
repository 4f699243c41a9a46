use Rattle.std.proofs.Common.{◌≡◌, length}
use Rattle.spec_base.specs.base.Put.{put}
use Rattle.spec_parked_blocks.specs.parked_blocks.Sealed.{room_length, sealed_all, filled}
use Rattle.parked_blocks.proofs.writing.put_held.Given as goal

abbrev pub invariant-loop-n : goal.invariant-loop-n
invariant-loop-n l = (l.out ≡ put (sealed_all 1 l.n (filled room_length l.held)) l.initial.out) × (length l.out ≡ length l.initial.out)
