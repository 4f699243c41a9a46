-- A conversion's value, 0 where it is refused, as the definition and as `unwrap_or` give it.
use Rattle.std.proofs.Common.{◌≡◌, refl, ℕ, Result, Ok, Err}
use Rattle.std.specs.Result.{result_unwrap_or}
use Rattle.refusals.specs.declared.refusal.Refusal.{Refusal}
use Rattle.caption_time.specs.Answer.{converted_of}

pub value_told : (r : Result ℕ Refusal) → result_unwrap_or r 0 ≡ (converted_of r).value
value_told (Ok v) = refl
value_told (Err r) = refl
