use Rattle.std.proofs.Common.{◌≡◌, length, take}
use Rattle.spec_base.specs.base.Put.{put}
use Rattle.spec_parked_blocks.specs.parked_blocks.Sealed.{words_bytes}
use Rattle.parked_blocks.proofs.writing.put_words.Given as goal

abbrev pub invariant-loop-i : goal.invariant-loop-i
invariant-loop-i l = (l.out ≡ put (words_bytes (take l.i l.words)) l.initial.out) × (length l.out ≡ length l.initial.out)
