use mathlib.Core.Path.{◌≡◌}
use Rattle.std.specs.Slice.Iter.{chunks_exact_rest, chunks_exact_size}
use Rattle.spec_ask.proofs.ask_delay.SavingLaws.{Flooring}
use Rattle.ask_delay.proofs.saving.floor_of.Given as goal

abbrev pub invariant-loop-c : goal.invariant-loop-c
invariant-loop-c l = (chunks_exact_size l.c-iterator ≡ 2) × Flooring l.config.kind l.config.timescale l.map l.captions (chunks_exact_rest l.c-iterator) l.n
