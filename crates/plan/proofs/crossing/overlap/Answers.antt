use Rattle.std.proofs.Common.{[], arith}
use Rattle.spec_trim.proofs.plan.SnapLaws.{crossing_start}
use Rattle.plan.proofs.PairRows.{pair_at, overlap_met, overlap_passed, overlap_over}
use Rattle.plan.proofs.crossing.overlap.Goals as goal

pub loop-start-init : goal.loop-start-init
loop-start-init c = (omega arith, crossing_start _ _)

pub returns-then-start-prev : goal.returns-then-start-prev
returns-then-start-prev c = search overlap_met

pub loop-start-preserved : goal.loop-start-preserved
loop-start-preserved c =
    let a = c.as_chunks.ensures in
    let x = pair_at c.args.ranges.now c.as_chunks.result.0.now c.args.count _ c.loop-start.start-index [] a.front a.front_len c.min.ensures c.loop-start-test.true in
    (omega (arith, x.room), search overlap_passed)

pub returns : goal.returns
returns c = search overlap_over
