use mathlib.Core.Path.{refl}
use native.Mathlib.Omega.{arith}
use Rattle.spec_map.proofs.segmap.TicksLaws.{sample_next, sample_fits, ticks_done}
use Rattle.segmap.proofs.sums.add_up.Goals as goal

pub overflow_add-ticks : goal.overflow_add-ticks
overflow_add-ticks c = search sample_fits

pub loop-i-preserved : goal.loop-i-preserved
loop-i-preserved c = search sample_next

pub returns : goal.returns
returns c = (refl, ticks_done _ c.loop-i.i c.args.to.0 _ (omega arith) c.loop-i-test.false c.loop-i.invariant)
