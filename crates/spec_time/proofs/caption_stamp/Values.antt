-- The number and the values of a time: a bad one is 22, with values 0.
use mathlib.Core.Path.{◌≡◌, refl}
use native.Mathlib.Omega.{arith}
use Rattle.std.specs.Prelude.{Option, Some, None}
use Rattle.spec_time.specs.declared.caption_stamp.Stamp.{Stamp}
use Rattle.spec_time.specs.caption_stamp.Read.{stamp, time_number, time_units, time_mark}

good_values : (t : Option Stamp) → time_number t ≡ 0 → t ≡ stamp (time_units t) (time_mark t)
good_values (Some u) e = refl
good_values None e = absurd (omega arith)

bad_values : (t : Option Stamp) → time_number t ≡ 22 → (time_units t ≡ 0) × (time_mark t ≡ 0)
bad_values (Some u) e = absurd (omega arith)
bad_values None e = (refl, refl)
