-- A segment past the limits of a map, and one at them.
use mathlib.Core.Path.{◌≡◌, refl}
use mathlib.Core.List.{[], ◌∷◌}
use Rattle.spec_time.specs.caption_time.Kind.{kind_bad, units_of}
use Rattle.spec_time.specs.caption_time.Convert.{ticks_of, core_holds, ticks_within}
use Rattle.spec_map.specs.segment.Segment.{segment, end_bad}
use Rattle.spec_caption.specs.caption_fate.Hit.{meets_parts, find_from}
use Rattle.spec_caption.specs.caption_fate.Decide.{decide_in}
use Rattle.spec_caption.specs.caption_fate.Cases.{told, decision_case}
use Rattle.table.specs.Example.{setting}

pub strange_told : decision_case (decide_in (setting 0) (segment 0 1 0 1 9007199254740992 1 ∷ []) 0 1) ≡ told 15 []
unfolding kind_bad units_of ticks_of core_holds ticks_within end_bad meets_parts find_from decide_in
strange_told = refl

pub limit_told : (decision_case (decide_in (setting 0) (segment 0 1 0 1 9007199254740991 1 ∷ []) 0 1)).number ≡ 0
unfolding kind_bad units_of ticks_of core_holds ticks_within end_bad meets_parts find_from decide_in
limit_told = refl
