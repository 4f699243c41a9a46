-- A lone conversion's answer, as 0 and the value, or the number of its refusal and 0.
use Rattle.std.specs.Prelude.{ℕ, Result, Ok, Err}
use Rattle.refusals.specs.Numbers.{number_of}
use Rattle.refusals.specs.declared.refusal.Refusal.{Refusal}
use Rattle.spec_time.specs.declared.caption_time.Converted.{Converted}

abbrev pub converted_of : Result ℕ Refusal → Converted
converted_of (Ok v) = record { number = 0; value = v }
converted_of (Err r) = record { number = number_of r; value = 0 }
