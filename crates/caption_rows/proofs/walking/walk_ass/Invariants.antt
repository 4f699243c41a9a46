use Prim.Native.Nat.{◌-◌}
use lib.ListN.{length}
use Rattle.spec_rows.proofs.caption_rows.WalkLaws.{AssAt}
use Rattle.caption_rows.proofs.walking.walk_ass.Given as goal

abbrev pub invariant-loop-at : goal.invariant-loop-at
invariant-loop-at l = AssAt l.text l.mark l.initial.rows l.rows l.columns l.before l.at l.n l.captions l.place

abbrev pub decreases-loop-at : goal.decreases-loop-at
decreases-loop-at l = length l.text - l.at
