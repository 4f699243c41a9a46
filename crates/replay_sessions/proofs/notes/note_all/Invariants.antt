use Rattle.std.proofs.Common.{◌≡◌, length}
use Rattle.replay_sessions.proofs.notes.note_all.Given as goal

abbrev pub invariant-loop-warning : goal.invariant-loop-warning
invariant-loop-warning l = length l.notes ≡ length l.initial.notes
