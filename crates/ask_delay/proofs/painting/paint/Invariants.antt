use mathlib.Core.Path.{◌≡◌}
use mathlib.Core.List.{List, ◌++◌}
use Prim.Native.Nat.{ℕ, ◌*◌, ◌/◌}
use lib.ListN.{length, drop}
use Rattle.std.specs.Iterator.Adapters.{rev_source}
use Rattle.std.specs.Slice.Iter.{chunks_exact_rest, chunks_exact_size}
use Rattle.spec_time.specs.caption_time.Kind.{units_of}
use Rattle.spec_map.specs.segment.Segment.{segments_of}
use Rattle.spec_ask.specs.ask_edges.Edge.{edges_of}
use Rattle.spec_ask.specs.ask_delay.Paint.{Window}
use Rattle.ask_delay.proofs.painting.paint.Given as goal

abbrev pub invariant-loop-s : goal.invariant-loop-s
invariant-loop-s l = record {
  size : chunks_exact_size (rev_source l.s-iterator) ≡ 6;
  tail : (r : List ℕ) × (l.map ≡ chunks_exact_rest (rev_source l.s-iterator) ++ r);
  window : Window (edges_of l.config.timescale (units_of l.config.kind) (segments_of (drop (6 * (length (chunks_exact_rest (rev_source l.s-iterator)) / 6)) l.map))) l.start l.stop l.grades;
}
