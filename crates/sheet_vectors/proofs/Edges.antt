-- The largest T and n of a sheet and the next ones, by computation; and the values of the check's answer.
use Prim.Native.Nat.{ℕ, suc}
use mathlib.Core.List.{List, [], ◌∷◌, map}
use mathlib.Core.Path.{◌≡◌, refl, sym, ap, ◌∙◌}
use native.Mathlib.Omega.{arith}
use borrow.Author.Tests.{ne_eqb}
use Rattle.spec_base.specs.base.Refusal.{◌or_else◌, fault_unless, first_of}
use Rattle.spec_base.proofs.base.Laws.{no! }
use Rattle.spec_sheet.specs.checked_blocks.Block.{word_at, sum_words, block_holds}
use Rattle.spec_sheet.specs.sheet_frames.Frames.{timescale_of, frames_of, record_word, decode_of, long_of}
use Rattle.spec_sheet.specs.sheet.Sheet.{spare_fault, head_fault, record_fault, check_fault, block_fault, record_blocks, sheet_fault, sheet_number, sheet_of, values_of}
use Rattle.spec_sheet.proofs.sheet.AnswerLaws.{sheet_values}
use Rattle.sheet_vectors.specs.Small.{small_records, sheet_with, small_sheet}
use Rattle.sheet_vectors.proofs.Vectors.{small_sound}

-- T 1,000,000 is sound and the next one 13; n 1,048,576 asks for a longer sheet (11) and the next one is 13
pub head_limits :
    map sheet_fault
    (sheet_with 1000000 10 small_records
    ∷ sheet_with 1000001 10 small_records
    ∷ sheet_with 30000 1048576 small_records
    ∷ sheet_with 30000 1048577 small_records
    ∷ [])
    ≡ 0 ∷ 13 ∷ 11 ∷ 13 ∷ []
unfolding sheet_fault check_fault block_holds head_fault block_fault record_fault record_word decode_of record_blocks spare_fault timescale_of frames_of sum_words word_at first_of fault_unless ◌or_else◌ long_of
head_limits = refl

-- the values of an answer: the head's of the small sheet, none of a sheet with a fault
pub small_values : values_of (sheet_of small_sheet 2) ≡ 30000 ∷ 10 ∷ 30000 ∷ 1001 ∷ []
small_values = ap values_of small_sound

pub damaged_values : (s : List ℕ) (lent k : ℕ) → sheet_number s lent ≡ suc k → values_of (sheet_of s lent) ≡ []
damaged_values s lent k e = sheet_values s lent ∙ sym (no! _ (ne_eqb (sheet_number s lent) 0 (λ z. omega arith)) refl)
