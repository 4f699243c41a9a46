use native.Mathlib.Omega.{arith}
use Rattle.segmap.proofs.MilestoneLaws.{step_within}
use borrow.Author.Rules.{rules}
use Rattle.segmap.proofs.sums.step.Goals as goal

pub add_up-reached-requires : goal.add_up-reached-requires
add_up-reached-requires c = (search rules, omega arith, search step_within)
