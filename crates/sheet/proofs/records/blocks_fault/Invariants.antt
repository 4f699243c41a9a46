use Prim.Native.Nat.{◌-◌}
use mathlib.Core.Path.{◌≡◌}
use Rattle.spec_base.specs.base.Refusal.{first_of}
use Rattle.spec_sheet.specs.sheet_frames.Frames.{long_of}
use Rattle.spec_sheet.specs.sheet.Sheet.{block_fault, record_blocks}
use Rattle.sheet.proofs.records.blocks_fault.Given as goal

abbrev pub invariant-loop-b : goal.invariant-loop-b
invariant-loop-b l = first_of (block_fault l.s l.n) l.b (l.end - l.b) ≡ first_of (block_fault l.s l.n) 1 (record_blocks (long_of l.s) l.n)
