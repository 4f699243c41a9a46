use Rattle.std.proofs.Common.{◌≡◌, ◌≤◌, length}
use Rattle.replay_sessions.proofs.running.feed_all.Given as goal

abbrev pub invariant-loop-t : goal.invariant-loop-t
invariant-loop-t l = (l.s.written ≤ length l.all) × (length l.all ≡ length l.initial.all) × (length l.notes ≡ length l.initial.notes) × (length l.places ≡ 4096)

abbrev pub decreases-loop-t : goal.decreases-loop-t
decreases-loop-t l = length l.t
