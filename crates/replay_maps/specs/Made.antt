-- The map of a sheet and a list as a case of `replay` asks for it: so many work bytes are lent, 0 being as many as are always enough, and more do not matter.
use Rattle.std.specs.Prelude.{cond, List, ℕ, eqb, ltb}
use Rattle.spec_base.specs.base.Limits.{most_work}
use Rattle.spec_map.specs.segmap.Map.{map_of}

unfoldable pub work_lent : ℕ → ℕ
work_lent c = cond (eqb c 0) most_work (cond (ltb most_work c) most_work c)

-- the number of its refusal, or 0
unfoldable pub made_number : (sheet list : List ℕ) (direction lent : ℕ) → ℕ
made_number sheet list direction lent = (map_of sheet list direction 6144 (work_lent lent)).number
