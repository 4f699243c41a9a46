use mathlib.Core.Path.{◌≡◌, ap}
use mathlib.Core.Bool.{not, true, false}
use borrow.Author.Tests.{not-true, not-false}
use Rattle.spec_parked_blocks.proofs.parked_blocks.FirstLaws.{blank_step, blank_no, blank_all_lem, blank_start}
use Rattle.std.proofs.Common.{arith}
use Rattle.parked_blocks.proofs.reading.blank_behind.Goals as goal

pub loop-b-init : goal.loop-b-init
loop-b-init c = (omega arith, search blank_start)

pub returns-then-not-blank_block : goal.returns-then-not-blank_block
returns-then-not-blank_block c = let e : c.blank_block.result ≡ false = not-true _ (ap not c.if-not-blank_block.true) in search blank_no

pub loop-b-preserved : goal.loop-b-preserved
loop-b-preserved c = let e : c.blank_block.result ≡ true = not-false _ (ap not c.if-not-blank_block.false) in (omega arith, search blank_step)

pub returns : goal.returns
returns c = search blank_all_lem
