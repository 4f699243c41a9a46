use native.Mathlib.Omega.{arith}
use mathlib.Core.Path.{sym}
use lib.Seq.{length-take-le}
use Rattle.spec_sheet.proofs.sheet_permutation.NamingLaws.{short_number, short_work, told_number, told_work, room_enough}
use Rattle.sheet_permutation.proofs.naming.once_fault.Goals as goal

pub returns-then-work-need-clause-value : goal.returns-then-work-need-clause-value
returns-then-work-need-clause-value c = search short_number

pub returns-then-work-need-clause-work_after : goal.returns-then-work-need-clause-work_after
returns-then-work-need-clause-work_after c = search short_work

pub slice_bounds-clean_pass-end-2 : goal.slice_bounds-clean_pass-end-2
slice_bounds-clean_pass-end-2 c = sym (length-take-le _ _ (omega arith))

pub clean_pass-requires : goal.clean_pass-requires
clean_pass-requires c = search room_enough

pub returns-clause-value : goal.returns-clause-value
returns-clause-value c = search told_number

pub returns-clause-work_after : goal.returns-clause-work_after
returns-clause-work_after c = search told_work
