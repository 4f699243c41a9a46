-- What a call gives, by its count of segments or the number of its refusal, of a sheet with a timescale.
use Rattle.std.specs.Prelude.{ℕ, Result, Ok, Err}
use Rattle.refusals.specs.Numbers.{number_of}
use Rattle.refusals.specs.declared.refusal.Refusal.{Refusal}
use Rattle.spec_map.specs.declared.segmap.Made.{Made}
use Rattle.spec_map.specs.segmap.Map.{made}

abbrev pub made_told : ℕ → Result ℕ Refusal → Made
made_told t (Ok k) = made 0 t k
made_told t (Err r) = made (number_of r) 0 0
