use native.Mathlib.Omega.{arith}
use mathlib.Core.Path.{refl}
use Rattle.spec_trim.proofs.plan.SnapLaws.{snapping_start, snapping_short, snapping_done, snapping_next}
use Rattle.spec_trim.proofs.plan.KnownLaws.{floor_of_first, ceil_of_end}
use borrow.Author.Rules.{rules}
use Rattle.plan.proofs.moves.snap.Goals as goal

pub loop-i-init : goal.loop-i-init
loop-i-init c = (search floor_of_first, search ceil_of_end, search rules, search rules, refl, snapping_start _ _ _ _ _)

pub returns-then-ranges-at-lt2 : goal.returns-then-ranges-at-lt2
returns-then-ranges-at-lt2 c = search snapping_short

pub loop-i-preserved : goal.loop-i-preserved
loop-i-preserved c = (search rules, search rules, search rules, omega arith, search rules, search snapping_next)

pub returns : goal.returns
returns c = search snapping_done
