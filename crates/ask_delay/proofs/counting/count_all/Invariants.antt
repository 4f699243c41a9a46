use mathlib.Core.Path.{◌≡◌}
use Rattle.std.specs.Slice.Iter.{chunks_exact_rest, chunks_exact_size}
use Rattle.spec_ask.proofs.ask_delay.TallyLaws.{Tallying}
use Rattle.ask_delay.proofs.counting.count_all.Given as goal

abbrev pub invariant-loop-c : goal.invariant-loop-c
invariant-loop-c l = (chunks_exact_size l.c-iterator ≡ 2) × Tallying l.config.kind l.config.timescale l.map l.captions (chunks_exact_rest l.c-iterator) l.tries l.grades l.losses
