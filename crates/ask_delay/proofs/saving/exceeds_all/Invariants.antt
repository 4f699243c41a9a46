use mathlib.Core.Path.{◌≡◌}
use Rattle.std.specs.Slice.Iter.{chunks_exact_rest, chunks_exact_size}
use Rattle.spec_map.specs.segment.Segment.{segments_of}
use Rattle.spec_ask.specs.ask_delay.Loss.{exceeds_all}
use Rattle.ask_delay.proofs.saving.exceeds_all.Given as goal

abbrev pub invariant-loop-s : goal.invariant-loop-s
invariant-loop-s l = (chunks_exact_size l.s-iterator ≡ 6) × (exceeds_all l.n (segments_of (chunks_exact_rest l.s-iterator)) ≡ exceeds_all l.n (segments_of l.map))
