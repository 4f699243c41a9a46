use Prim.Native.Nat.{◌-◌}
use lib.ListN.{length}
use Rattle.spec_rows.proofs.caption_rows.WalkLaws.{BlockAt}
use Rattle.caption_rows.proofs.walking.walk_blocks.Given as goal

abbrev pub invariant-loop-at : goal.invariant-loop-at
invariant-loop-at l = BlockAt l.kind l.text l.start l.mark l.lines l.initial.rows l.rows l.before l.from l.first l.at l.n l.captions l.place

abbrev pub decreases-loop-at : goal.decreases-loop-at
decreases-loop-at l = length l.text - l.at
