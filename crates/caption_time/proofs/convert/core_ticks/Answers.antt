use Rattle.spec_base.proofs.base.Laws.{calls}
use Rattle.spec_time.specs.caption_time.Convert.{ticks_within}
use Rattle.spec_time.proofs.caption_time.Limits.{units_fit, core_ticks_yes}
use Rattle.caption_time.proofs.convert.core_ticks.Goals as goal

pub scale_down-requires : goal.scale_down-requires
scale_down-requires c = simp (c.from.ensures, c.from-then-core_holds.ensures) (units_fit _ _ _ _ _ c.if-core_holds.true c.units_of.ensures c.core_holds.ensures)

pub returns-then-core_holds : goal.returns-then-core_holds
returns-then-core_holds c = let e = simp (c.from.ensures, c.from-then-core_holds.ensures) at c.scale_down.ensures in core_ticks_yes _ _ _ _ _ c.if-core_holds.true c.units_of.ensures _ c.core_holds.ensures e

pub returns-else-core_holds : goal.returns-else-core_holds
unfolding ticks_within
returns-else-core_holds c = search calls depth 12 fits 20000
