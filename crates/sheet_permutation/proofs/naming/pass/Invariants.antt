use Prim.Native.Nat.{◌-◌, ◌≤◌}
use mathlib.Core.Path.{◌≡◌}
use lib.ListN.{length}
use Rattle.spec_base.specs.base.Refusal.{first_of}
use Rattle.spec_sheet.specs.sheet_permutation.Once.{repeat_fault}
use Rattle.spec_sheet.proofs.sheet_permutation.NamingLaws.{Seen}
use Rattle.sheet_permutation.proofs.naming.pass.Given as goal

abbrev pub invariant-loop-i : goal.invariant-loop-i
invariant-loop-i g l = (l.i ≤ l.n) × (length l.bits ≡ length l.initial.bits) × Seen l.s l.i l.bits × (first_of (repeat_fault l.s l.n) l.i (l.n - l.i) ≡ first_of (repeat_fault l.s l.n) 0 l.n)
