use mathlib.Core.Path.{◌≡◌}
use Prim.Native.Nat.{◌≤◌, ◌+◌, ◌*◌}
use lib.ListN.{length}
use Rattle.std.specs.Slice.Iter.{chunks_exact_rest, chunks_exact_size}
use Rattle.map_json_write.proofs.LayoutLaws.{ListBegun}
use Rattle.map_json_write.proofs.layout.rest_at.Given as goal

abbrev pub invariant-loop-s : goal.invariant-loop-s
invariant-loop-s l =
    (6 * l.p + 540 * length (chunks_exact_rest l.s-iterator) ≤ 6 * l.at + 540 * length l.map)
    × ListBegun l.map (chunks_exact_rest l.s-iterator) l.at l.initial.out l.out l.p × (chunks_exact_size l.s-iterator ≡ 6)
