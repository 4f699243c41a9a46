use mathlib.Core.Path.{◌≡◌}
use Prim.Native.Nat.{ℕ}
use lib.ListN.{length, replicate, length-replicate}
use Rattle.spec_base.specs.base.Limits.{most_held}
use Rattle.spec_runs.proofs.one_call.WholeLaws.{room_whole, room_holds}
use Rattle.one_call.proofs.running.resumed.Goals as goal

pub returns : goal.returns
returns c = let A = c.args in let S = c.requires in let B = c.put-n.ensures in let z : length {A = ℕ} (replicate 8192 0) ≡ most_held = length-replicate {A = ℕ} 8192 0 in let h = room_holds A.kept.now (replicate 8192 0) _ _ S z B.0 B.1 in (λ i. record { config = A.head.config; taken = A.head.taken; lines = A.head.lines; held = h i; known = A.head.columns; counts = A.head.counts; outcome = A.head.outcome; ended = A.head.ended }, room_whole A.kept.now (replicate 8192 0) _ _ S z B.0 B.1)
