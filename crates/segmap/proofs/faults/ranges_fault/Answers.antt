use Rattle.std.proofs.Common.{[], arith}
use Rattle.std.proofs.lemmas.Result.{err_from_is_err_and}
use Rattle.refusals.proofs.Laws.{refused_not_0}
use Rattle.spec_map.proofs.segmap.BuildLaws.{testing_start}
use Rattle.plan.proofs.PairRows.{pair_at}
use Rattle.segmap.proofs.PairTests.{fault_met, fault_passed, faults_over}
use Rattle.segmap.proofs.faults.ranges_fault.Goals as goal

pub loop-start-init : goal.loop-start-init
loop-start-init c = (omega arith, testing_start _ _ _ _)

pub returns-in_err-range_fault : goal.returns-in_err-range_fault
returns-in_err-range_fault c = let p = err_from_is_err_and c.from_residual.result c.from_residual.ensures.1 in rw (p.1, p.2) (search (fault_met, refused_not_0, c.in_err-range_fault.ensures))

pub loop-start-preserved : goal.loop-start-preserved
loop-start-preserved c =
    let a = c.as_chunks.ensures in
    let x = pair_at c.args.ranges.now c.as_chunks.result.0.now c.args.count _ c.loop-start.start-index [] a.front a.front_len c.min.ensures c.loop-start-test.true in
    (omega (arith, x.room), search (fault_passed, c.in_ok-range_fault.ensures))

pub returns : goal.returns
returns c = search faults_over
