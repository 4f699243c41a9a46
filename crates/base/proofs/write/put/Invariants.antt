use Rattle.std.proofs.Common.{◌≡◌, take}
use Rattle.spec_base.specs.base.Put.{put}
use Rattle.base.proofs.write.put.Given as goal

abbrev pub invariant-loop-i : goal.invariant-loop-i
invariant-loop-i g l = l.out ≡ put (take l.i l.s) l.initial.out
