-- The number that `why` prints after `refused`, or 0 where it answers: a sheet above 65,536 bytes is 11, then the map's number, then 16 for questions
-- above 65,536 bytes.
use Rattle.std.specs.Prelude.{List, ℕ, leb, length}
use Rattle.spec_base.specs.base.Refusal.{◌or_else◌, fault_unless}
use Rattle.files_map.specs.Printed.{printed_number}

unfoldable pub page_number : (sheet list times : List ℕ) → ℕ
page_number s l t = printed_number s l or_else fault_unless (leb (length t) 65536) 16
