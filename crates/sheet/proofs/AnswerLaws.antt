-- The number of the check's answer, as the definition and as the enum give it.
use Rattle.std.proofs.Common.{◌≡◌, refl, ap, ◌∙◌, ℕ, zero, suc, List, [], ◌∷◌, cond, eqb, Result, Ok, Err}
use Rattle.refusals.specs.Numbers.{told}
use Rattle.refusals.specs.declared.refusal.Refusal.{Refusal}
use Rattle.spec_sheet.specs.declared.sheet.Head.{Head}
use Rattle.spec_sheet.specs.sheet_frames.Frames.{timescale_of, frames_of, rate_num_of, rate_den_of}
use Rattle.spec_sheet.specs.sheet.Sheet.{number_of, values_of, sheet_number, sheet_answer, sheet_of, head_of}
use Rattle.spec_sheet.proofs.sheet.AnswerLaws.{sheet_values}
use Rattle.sheet.specs.Answer.{answer_of}

pub told_answer : (r : Result Head Refusal) → told r ≡ number_of (answer_of r)
told_answer (Ok h) = refl
told_answer (Err r) = refl

number_by : (k : ℕ) (h : Head) → number_of (sheet_answer k h) ≡ k
unfolding sheet_answer
number_by zero h = refl
number_by (suc k) h = refl

-- The number and the values of the check's answer, from its contract, at every input.
pub told_sheet : (s : List ℕ) (lent : ℕ) (r : Result Head Refusal) → answer_of r ≡ sheet_of s lent → told r ≡ sheet_number s lent
unfolding sheet_of head_of
told_sheet s lent r e = told_answer r ∙ ap number_of e ∙ number_by (sheet_number s lent) (head_of s)

pub held_sheet : (s : List ℕ) (lent : ℕ) (r : Result Head Refusal) → answer_of r ≡ sheet_of s lent
    → values_of (answer_of r) ≡ cond (eqb (sheet_number s lent) 0) (timescale_of s ∷ frames_of s ∷ rate_num_of s ∷ rate_den_of s ∷ []) []
held_sheet s lent r e = ap values_of e ∙ sheet_values s lent
