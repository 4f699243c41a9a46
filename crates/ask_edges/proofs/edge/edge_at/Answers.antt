use Prim.Native.Nat.{◌+◌, ◌≤◌}
use native.Mathlib.Omega.{arith}
use Rattle.spec_base.specs.base.Limits.{most_ticks}
use Rattle.spec_ask.proofs.ask_edges.Fine.{edge_empty, edge_bad, edge_made, edge_sums}
use Rattle.ask_edges.proofs.edge.edge_at.Goals as goal
use Rattle.ask_edges.proofs.edge.edge_at.Goals.{then-duration-eq0-via-then-duration-eq0, then-duration-eq0-via-else-duration-eq0+then-end_bad}

sums : (c : goal.Else-end_bad) → c.args.source + c.args.duration ≤ most_ticks
sums c = search edge_sums

pub returns-then-duration-eq0 : goal.returns-then-duration-eq0
returns-then-duration-eq0 c =
    elim c.then-duration-eq0.branch [ then-duration-eq0-via-then-duration-eq0 w ↦ search edge_empty | then-duration-eq0-via-else-duration-eq0+then-end_bad w ↦ search edge_bad ]

pub overflow_add-last : goal.overflow_add-last
overflow_add-last c = let k = sums c in omega arith

pub overflow_add-source : goal.overflow_add-source
overflow_add-source c = let k = sums c.before in omega arith

pub overflow_add-last-2 : goal.overflow_add-last-2
overflow_add-last-2 c = let k = sums c.before.before.before in omega arith

pub returns : goal.returns
returns c = search edge_made depth 14
