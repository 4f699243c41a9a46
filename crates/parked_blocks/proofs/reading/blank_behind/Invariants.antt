use Rattle.std.proofs.Common.{◌≡◌, ◌+◌, ◌-◌, ◌≤◌}
use Rattle.spec_parked_blocks.specs.parked_blocks.First.{blank_all}
use Rattle.parked_blocks.proofs.reading.blank_behind.Given as goal

abbrev pub invariant-loop-b : goal.invariant-loop-b
invariant-loop-b l = (l.b ≤ 18) × (blank_all l.s l.b (18 - l.b) ≡ blank_all l.s (l.k + 1) (17 - l.k))
