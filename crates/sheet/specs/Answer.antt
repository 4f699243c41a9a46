-- The check's answer, with the number of its refusal.
use Rattle.std.specs.Prelude.{ℕ, Result, Ok, Err}
use Rattle.refusals.specs.Numbers.{number_of}
use Rattle.refusals.specs.declared.refusal.Refusal.{Refusal}
use Rattle.spec_sheet.specs.declared.sheet.Head.{Head}

abbrev pub answer_of : Result Head Refusal → Result Head ℕ
answer_of (Ok h) = Ok h
answer_of (Err r) = Err (number_of r)
