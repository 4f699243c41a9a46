-- Where no record is lent, the work bytes stay as they were.
use Prim.Native.Nat.{ℕ}
use mathlib.Core.List.{List, []}
use mathlib.Core.Path.{◌≡◌, refl}
use Rattle.spec_map.specs.segmap.Map.{map_work}
use Rattle.spec_records.specs.map_records.Records.{bytes_into}

pub none_lent : (sheet : List ℕ) (direction : ℕ) (work : List ℕ) → bytes_into sheet direction [] work ≡ work
unfolding map_work
none_lent sheet d work = refl
