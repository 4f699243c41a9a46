use Prim.Native.Nat.{◌-◌}
use mathlib.Core.Path.{◌≡◌}
use Rattle.spec_base.specs.base.Refusal.{first_of}
use Rattle.spec_sheet.specs.sheet.Sheet.{spare_fault}
use Rattle.sheet.proofs.heads.spare_fault.Given as goal

abbrev pub invariant-loop-i : goal.invariant-loop-i
invariant-loop-i l = first_of (spare_fault l.s 13) l.i (127 - l.i) ≡ first_of (spare_fault l.s 13) 6 121
