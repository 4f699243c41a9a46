use Rattle.std.proofs.Common.{refl}
use Rattle.files_map.proofs.NumberLaws.{number_told, number_zero, told_as}
use Rattle.files_map.proofs.print.print_map_of.Goals as goal

pub returns-then-number-ne0-clause-value : goal.returns-then-number-ne0-clause-value
returns-then-number-ne0-clause-value g c =
    told_as _ _ _ (number_told _ _ _ _ _ _ c.make-made.ensures.value refl) c.print_number.ensures.value

pub returns-clause-value : goal.returns-clause-value
returns-clause-value g c = number_zero _ _ _ _ _ _ c.make-made.ensures.value refl c.if-number-ne0.false
