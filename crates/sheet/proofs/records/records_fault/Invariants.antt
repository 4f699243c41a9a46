use Prim.Native.Nat.{◌-◌, ◌*◌}
use mathlib.Core.Bool.{not}
use lib.Dec.{eqb}
use mathlib.Core.Path.{◌≡◌}
use Rattle.spec_base.specs.base.Refusal.{first_of}
use Rattle.spec_sheet.specs.sheet_frames.Frames.{per_block}
use Rattle.spec_sheet.specs.sheet.Sheet.{record_fault}
use Rattle.sheet.proofs.records.records_fault.Given as goal

abbrev pub invariant-loop-i : goal.invariant-loop-i
invariant-loop-i g l = first_of (record_fault l.s l.n) l.i (l.end - l.i) ≡ first_of (record_fault l.s l.n) (per_block (not (eqb g.row.LONG 0)) * (l.b - 1)) (per_block (not (eqb g.row.LONG 0)))
