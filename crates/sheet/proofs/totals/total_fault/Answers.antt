use Prim.Native.Nat.{ℕ, ◌<◌}
use lib.ListN.{get_or}
use Rattle.spec_sheet.proofs.sheet.TotalLaws.{total_short}
use Rattle.sheet.proofs.totals.total_fault.Goals as goal

pub returns-else-long : goal.returns-else-long
returns-else-long c = let b : (j : ℕ) → get_or c.args.s.now j 0 < 256 = λ j. (c.type_inv.s j).fits in search (total_short, b)
