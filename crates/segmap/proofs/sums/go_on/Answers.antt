use native.Mathlib.Omega.{arith}
use Rattle.spec_map.proofs.segmap.TicksLaws.{ticks_done}
use Rattle.segmap.proofs.MilestoneLaws.{noted_start, noted_next, noted_done}
use borrow.Author.Rules.{rules}
use Rattle.segmap.proofs.sums.go_on.Goals as goal

pub loop-reached-init : goal.loop-reached-init
loop-reached-init c = (search rules, search rules, search rules, noted_start _ _ _)

pub loop-reached-preserved : goal.loop-reached-preserved
loop-reached-preserved c = (search rules, search rules, search rules, search noted_next)

pub returns-clause-decode_value : goal.returns-clause-decode_value
returns-clause-decode_value c = (omega arith, search ticks_done)

pub returns-clause-noted : goal.returns-clause-noted
returns-clause-noted c = search noted_done
