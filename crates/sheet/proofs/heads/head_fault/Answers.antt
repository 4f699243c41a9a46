use Prim.Native.Nat.{◌<◌}
use native.Mathlib.Omega.{arith}
use Rattle.spec_sheet.proofs.sheet.FaultLaws.{head_layout, head_none, head_fast, head_empty, head_long, head_rest}
use Rattle.sheet.proofs.heads.head_fault.Goals as goal
use Rattle.sheet.proofs.heads.head_fault.Goals.{then-t-eq0-via-then-t-eq0, then-t-eq0-via-else-t-eq0+then-timescale_in-t, then-n-eq0-via-then-n-eq0, then-n-eq0-via-else-n-eq0+then-n-gt-MOST_FRAMES}

pub returns-then-layout-gt1 : goal.returns-then-layout-gt1
returns-then-layout-gt1 c = search head_layout

pub returns-then-t-eq0 : goal.returns-then-t-eq0
returns-then-t-eq0 c =
    elim c.then-t-eq0.branch [ then-t-eq0-via-then-t-eq0 w ↦ search (head_none, arith) | then-t-eq0-via-else-t-eq0+then-timescale_in-t w ↦ (let l : 0 < c.timescale-t.result = omega arith in search head_fast) ]

pub returns-then-n-eq0 : goal.returns-then-n-eq0
returns-then-n-eq0 c =
    let l : 0 < c.timescale-t.result = omega arith in
    elim c.then-n-eq0.branch [ then-n-eq0-via-then-n-eq0 w ↦ search (head_empty, arith) | then-n-eq0-via-else-n-eq0+then-n-gt-MOST_FRAMES w ↦ (let k : 0 < c.frames-n.result = omega arith in search head_long) ]

pub returns : goal.returns
returns c =
    let l : 0 < c.timescale-t.result = omega arith in
    let k : 0 < c.frames-n.result = omega arith in
    search head_rest
