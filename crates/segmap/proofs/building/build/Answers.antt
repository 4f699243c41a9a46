use native.Mathlib.Omega.{arith}
use mathlib.Core.Path.{refl}
use Rattle.spec_map.proofs.segmap.BuildLaws.{testing_zero, building_start, building_next, building_done, adding_start, adding_next, adding_done, free_next, free_ordered, free_within, free_summed}
use borrow.Author.Rules.{rules}
use Rattle.segmap.proofs.building.build.Goals as goal

pub loop-i-init : goal.loop-i-init
loop-i-init c = (search rules, refl, search rules, search rules, search rules, search rules, search rules, adding_start _ _ _, search testing_zero, building_start _ _ _ _)

pub segment_of-step-requires-clause-start_le_end : goal.segment_of-step-requires-clause-start_le_end
segment_of-step-requires-clause-start_le_end c = (search free_ordered, search free_within)

pub segment_of-step-requires-clause-start_bound : goal.segment_of-step-requires-clause-start_bound
segment_of-step-requires-clause-start_bound c = search free_summed

pub loop-i-preserved : goal.loop-i-preserved
loop-i-preserved c = (omega arith, search rules, search rules, search rules, search rules, search rules, omega arith, search adding_next, search free_next, search building_next)

pub returns-clause-value : goal.returns-clause-value
returns-clause-value c = search adding_done

pub returns-clause-map_after : goal.returns-clause-map_after
returns-clause-map_after c = search building_done
