use Prim.Native.Nat.{◌≤◌, ◌+◌, ◌*◌}
use lib.ListN.{take}
use Rattle.spec_json.specs.json.Quote.{escaped_all}
use Rattle.map_json_write.specs.Written.{Written}
use Rattle.map_json_write.proofs.quoting.escapes_at.Given as goal

abbrev pub invariant-loop-b : goal.invariant-loop-b
invariant-loop-b l = (l.p ≤ l.at + 6 * l.b-index) × Written l.at (escaped_all (take l.b-index l.s)) l.initial.out l.p l.out
