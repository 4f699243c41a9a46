-- What a token and a list give, with the number of the refusal.
use Rattle.std.specs.Prelude.{ℕ, Result, Ok, Err}
use Rattle.refusals.specs.Numbers.{number_of}
use Rattle.refusals.specs.declared.refusal.Refusal.{Refusal}
use Rattle.spec_trim.specs.declared.trim.Parsed.{Parsed}
use Rattle.spec_trim.specs.declared.trim.Range.{Range}
use Rattle.spec_trim.specs.trim.TrimList.{parsed}

abbrev pub token_told : Result Range Refusal → Result Range ℕ
token_told (Ok r) = Ok r
token_told (Err r) = Err (number_of r)

-- how many ranges a list has, or the number of its refusal and 0
abbrev pub parsed_told : Result ℕ Refusal → Parsed
parsed_told (Ok k) = parsed 0 k
parsed_told (Err r) = parsed (number_of r) 0
