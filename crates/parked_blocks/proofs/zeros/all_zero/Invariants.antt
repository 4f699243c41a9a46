use Rattle.std.proofs.Common.{◌≡◌, ◌&&◌, eqb, drop}
use Rattle.spec_parked_blocks.specs.parked_blocks.Sealed.{all_zero}
use Rattle.parked_blocks.proofs.zeros.all_zero.Given as goal

abbrev pub invariant-loop-b : goal.invariant-loop-b
invariant-loop-b l = all_zero l.s ≡ (eqb l.most 0 && all_zero (drop l.b-index l.s))
