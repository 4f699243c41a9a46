use Rattle.spec_sheet.proofs.sheet_permutation.BitLaws.{sum_fits, bit_old, bit_new}
use Rattle.sheet_permutation.proofs.bits.set_bit.Goals as goal

pub returns-then-old-k-eq1 : goal.returns-then-old-k-eq1
returns-then-old-k-eq1 c = bit_old _ _ c.if-old-k-eq1.true

pub overflow_add-bits : goal.overflow_add-bits
overflow_add-bits c = record { fits = sum_fits _ _ (c.slice_known-1.given _).fits c.if-old-k-eq1.false }

pub returns : goal.returns
returns c = bit_new _ _ c.if-old-k-eq1.false
