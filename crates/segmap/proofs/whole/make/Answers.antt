use mathlib.Core.Path.{refl, ◌∙◌}
use native.Mathlib.Omega.{arith}
use Rattle.spec_map.proofs.segmap.MapLaws.{short_made, short_work, short_map, direction_made, direction_work, direction_map, checked_work, sheet_made, sheet_map, cut_made, cut_map, sound_fault, sound_frames, sound_timescale, sound_within}
use Rattle.segmap.proofs.whole.make.Goals as goal
use Rattle.segmap.proofs.whole.make.Goals.{then-map-via-then-map, then-map-via-else-map+then-direction-gt1}

pub returns-then-map-clause-value : goal.returns-then-map-clause-value
returns-then-map-clause-value c = elim c.then-map.branch [ then-map-via-then-map w ↦ search short_made | then-map-via-else-map+then-direction-gt1 w ↦ search direction_made ]

pub returns-then-map-clause-work_after : goal.returns-then-map-clause-work_after
returns-then-map-clause-work_after c = elim c.then-map.branch [ then-map-via-then-map w ↦ search short_work | then-map-via-else-map+then-direction-gt1 w ↦ search direction_work ]

pub returns-then-map-clause-map_after : goal.returns-then-map-clause-map_after
returns-then-map-clause-map_after c = elim c.then-map.branch [ then-map-via-then-map w ↦ search short_map | then-map-via-else-map+then-direction-gt1 w ↦ search direction_map ]

pub map_ranges-requires-clause-s_value : goal.map_ranges-requires-clause-s_value
map_ranges-requires-clause-s_value c =
    let e = c.in-Ok.ensures.value in
    (sound_fault _ _ _ _ e refl, sound_frames _ _ _ _ e refl, sound_within _ _ _ _ e refl)

pub map_ranges-requires-clause-direction_bound : goal.map_ranges-requires-clause-direction_bound
map_ranges-requires-clause-direction_bound c = (omega arith, omega arith, omega arith)

pub returns-in-Err-clause-value : goal.returns-in-Err-clause-value
returns-in-Err-clause-value c = sheet_made _ _ _ _ _ (omega arith) (omega arith) _ _ _ c.in-Err.ensures.value refl c.refused-in-Err.ensures

pub returns-in-Err-clause-work_after : goal.returns-in-Err-clause-work_after
returns-in-Err-clause-work_after c = search checked_work

pub returns-in-Err-clause-map_after : goal.returns-in-Err-clause-map_after
returns-in-Err-clause-map_after c = sheet_map _ _ _ _ _ (omega arith) (omega arith) _ _ _ c.in-Err.ensures.value refl

pub returns-in-Ok-clause-value : goal.returns-in-Ok-clause-value
returns-in-Ok-clause-value c =
    let e = c.in-Ok.ensures.value in
    let t = sound_timescale _ _ _ _ e refl in
    cut_made _ _ _ _ _ (omega arith) (omega arith) _ _ e refl _ (c.answered.ensures ∙ rw t c.map_ranges.ensures.value)

pub returns-in-Ok-clause-work_after : goal.returns-in-Ok-clause-work_after
returns-in-Ok-clause-work_after c = search checked_work

pub returns-in-Ok-clause-map_after : goal.returns-in-Ok-clause-map_after
returns-in-Ok-clause-map_after c = cut_map _ _ _ _ _ (omega arith) (omega arith) _ _ c.in-Ok.ensures.value refl _ _ c.map_ranges.ensures.map_after
