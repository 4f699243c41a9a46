use Rattle.std.proofs.Common.{◌≡◌, ◌-◌}
use Rattle.spec_parked_blocks.specs.parked_blocks.Sealed.{all_hold}
use Rattle.parked_blocks.proofs.reading.all_hold.Given as goal

abbrev pub invariant-loop-b : goal.invariant-loop-b
invariant-loop-b l = all_hold l.s l.b (l.n - l.b) ≡ all_hold l.s 0 l.n
