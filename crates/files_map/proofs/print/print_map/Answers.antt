use Rattle.std.proofs.Common.{refl}
use Rattle.files_map.proofs.NumberLaws.{too_large, within, told_as}
use Rattle.files_map.proofs.print.print_map.Goals as goal

pub returns-then-sheet-gt65536-clause-value : goal.returns-then-sheet-gt65536-clause-value
returns-then-sheet-gt65536-clause-value g c = told_as _ _ _ (too_large _ _ _ c.if-sheet-gt65536.true refl) c.print_number.ensures.value

pub returns-clause-value : goal.returns-clause-value
returns-clause-value g c = told_as _ _ _ (within _ _ _ _ c.if-sheet-gt65536.false refl refl) c.print_map_of.ensures.value
