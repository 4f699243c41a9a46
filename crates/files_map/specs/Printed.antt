-- The number that `mapper` prints after `refused`, or 0 where it prints the map.
use Rattle.std.specs.Prelude.{cond, List, ℕ, ltb, length}
use Rattle.spec_base.specs.base.Limits.{most_work}
use Rattle.spec_map.specs.segmap.Map.{map_of}

unfoldable pub printed_number : (sheet list : List ℕ) → ℕ
printed_number s l = cond (ltb 65536 (length s)) 11 (map_of s l 0 6144 most_work).number
