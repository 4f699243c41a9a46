use Rattle.map_json_segments.proofs.ListLaws.{Left}
use mathlib.Core.Path.{◌≡◌}
use Prim.Native.Nat.{◌+◌, ◌≤◌}
use lib.ListN.{length}
use Rattle.map_json_segments.proofs.list.segments_into.Given as goal

abbrev pub invariant-loop-x : goal.invariant-loop-x
invariant-loop-x l = (l.n + length l.t ≤ length l.s) × (length l.map ≡ length l.initial.map) × Left l.s l.t l.n l.initial.map l.map

abbrev pub decreases-loop-x : goal.decreases-loop-x
decreases-loop-x l = length l.t
