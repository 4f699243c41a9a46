use native.Mathlib.Omega.{arith}
use Rattle.spec_sheet.specs.sheet.Sheet.{record_blocks}
use Rattle.sheet.proofs.records.record_blocks.Goals as goal

pub returns-then-long : goal.returns-then-long
unfolding record_blocks
returns-then-long c = (rw c.if-long.true (omega arith), omega arith)

pub returns-else-long : goal.returns-else-long
unfolding record_blocks
returns-else-long c = (rw c.if-long.false (omega arith), omega arith)
