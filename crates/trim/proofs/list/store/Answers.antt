use native.Mathlib.Omega.{arith}
use lib.ListN.{length-set}
use Rattle.trim.proofs.list.store.Goals as goal

pub bounds-ranges-count-2 : goal.bounds-ranges-count-2
bounds-ranges-count-2 c = simp length-set (omega arith)
