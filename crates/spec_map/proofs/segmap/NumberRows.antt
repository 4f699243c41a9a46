-- 16 comes first of a map's numbers: fewer than 6,144 places, and a direction above 1. By computation, with an empty sheet (11).
use mathlib.Core.Path.{◌≡◌, refl}
use mathlib.Core.List.{[], ◌∷◌}
use Rattle.spec_base.specs.base.Refusal.{◌or_else◌, fault_unless}
use Rattle.spec_sheet.specs.sheet.Sheet.{sheet_fault, sheet_number}
use Rattle.spec_map.specs.segmap.Map.{map_number}

pub number_rows : map_number [] [] 0 6143 0 ∷ map_number [] [] 2 6144 0 ∷ map_number [] [] 0 6144 0 ∷ map_number [] [] 1 6144 0 ∷ [] ≡ 16 ∷ 16 ∷ 11 ∷ 11 ∷ []
unfolding map_number sheet_number sheet_fault fault_unless ◌or_else◌
number_rows = refl
