use mathlib.Core.Path.{◌≡◌}
use Rattle.std.specs.Slice.Iter.{chunks_exact_rest, chunks_exact_size}
use Rattle.spec_time.specs.caption_time.Kind.{units_of}
use Rattle.spec_ask.proofs.ask_census.Turns.{Going}
use Rattle.ask_census.proofs.tally.count_starts.Given as goal

abbrev pub invariant-loop-s : goal.invariant-loop-s
invariant-loop-s l = (chunks_exact_size l.s-iterator ≡ 6) × Going l.timescale (units_of l.kind) l.map (chunks_exact_rest l.s-iterator) l.length l.count l.till l.kept l.whole
