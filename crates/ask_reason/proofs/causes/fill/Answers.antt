use native.Mathlib.Omega.{arith}
use lib.ListN.{length-drop}
use Rattle.spec_ask.proofs.ask_reason.CauseLaws.{filling_start, filling_again, filling_end}
use Rattle.segment.proofs.RowLaws.{row_at}
use Rattle.ask_reason.proofs.causes.fill.Goals as goal

pub loop-i-init : goal.loop-i-init
loop-i-init c = filling_start _ _ _ _ c.requires

pub loop-i-preserved : goal.loop-i-preserved
loop-i-preserved c =
    let r = row_at c.args.map.now _ c.loop-i.i _ c.as_chunks.ensures.front c.as_chunks.ensures.front_len c.loop-i-test.true in
    filling_again _ _ _ _ _ _ _ c.loop-i.invariant r.enough _ _ _ (r.same 2 (omega arith)) (r.same 5 (omega arith)) c.cause.ensures _ r.next

pub returns : goal.returns
returns c = filling_end _ _ _ _ _ _ _ c.loop-i.invariant (simp length-drop (omega (arith, c.as_chunks.ensures.front_len, c.loop-i-test.false)))
