use mathlib.Core.Path.{◌≡◌, ap}
use mathlib.Core.Bool.{not, true, false}
use borrow.Author.Tests.{not-true, not-false}
use Rattle.spec_parked_blocks.proofs.parked_blocks.ReadLaws.{hold_step, hold_no, hold_all}
use Rattle.parked_blocks.proofs.reading.all_hold.Goals as goal

pub returns-then-not-block_holds : goal.returns-then-not-block_holds
returns-then-not-block_holds c = let e : c.block_holds.result ≡ false = not-true _ (ap not c.if-not-block_holds.true) in search hold_no

pub loop-b-preserved : goal.loop-b-preserved
loop-b-preserved c = let e : c.block_holds.result ≡ true = not-false _ (ap not c.if-not-block_holds.false) in search hold_step

pub returns : goal.returns
returns c = search hold_all
