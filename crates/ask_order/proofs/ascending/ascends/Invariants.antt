use mathlib.Core.Path.{◌≡◌}
use Prim.Native.Nat.{◌+◌}
use Rattle.std.specs.Slice.Iter.{chunks_exact_rest, chunks_exact_size}
use Rattle.spec_map.specs.segment.Segment.{segments_of}
use Rattle.spec_ask.specs.ask_order.Ascending.{ascends_from, ascends}
use Rattle.ask_order.proofs.ascending.ascends.Given as goal

abbrev pub invariant-loop-s : goal.invariant-loop-s
invariant-loop-s l = (chunks_exact_size l.s-iterator ≡ 6) × (ascends (segments_of l.map) ≡ ascends_from (l.last.source + l.last.length) (l.last.output + l.last.length) (segments_of (chunks_exact_rest l.s-iterator)))
