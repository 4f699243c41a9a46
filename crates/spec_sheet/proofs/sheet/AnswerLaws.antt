-- The values of the check's answer, case by case: the head's where its number is 0, else none.
use Prim.Native.Nat.{ℕ, zero, suc}
use mathlib.Core.Bool.{cond}
use mathlib.Core.List.{List, [], ◌∷◌}
use mathlib.Core.Path.{◌≡◌, refl}
use native.Mathlib.Omega.{arith}
use borrow.Author.Tests.{ne_eqb}
use lib.Dec.{eqb}
use Rattle.spec_base.proofs.base.Laws.{no! }
use Rattle.spec_sheet.specs.sheet_frames.Frames.{timescale_of, frames_of, rate_num_of, rate_den_of}
use Rattle.spec_sheet.specs.declared.sheet.Head.{Head}
use Rattle.spec_sheet.specs.sheet.Sheet.{sheet_number, head_of, sheet_answer, sheet_of, values_of}

values_by : (k : ℕ) (h : Head) → values_of (sheet_answer k h) ≡ cond (eqb k 0) (h.timescale ∷ h.frames ∷ h.rate_num ∷ h.rate_den ∷ []) []
unfolding sheet_answer
values_by zero h = refl
values_by (suc k) h = no! _ (ne_eqb (suc k) 0 (λ e. omega arith)) refl

pub sheet_values : (s : List ℕ) (lent : ℕ) → values_of (sheet_of s lent) ≡ cond (eqb (sheet_number s lent) 0) (timescale_of s ∷ frames_of s ∷ rate_num_of s ∷ rate_den_of s ∷ []) []
unfolding sheet_of head_of
sheet_values s lent = values_by (sheet_number s lent) (head_of s)
