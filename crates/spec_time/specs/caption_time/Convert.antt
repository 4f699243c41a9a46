-- Units and ticks. A second has U units and T ticks.
use Rattle.std.specs.Prelude.{ℕ, ◌+◌, ◌-◌, ◌*◌, ◌/◌, ◌^◌, Bool, true, false, cond, not, eqb, ltb, leb}
use Rattle.spec_base.specs.base.Limits.{most_timescale, most_units, most_ticks}
use Rattle.spec_base.specs.base.Refusal.{◌or_else◌, fault_unless}
use Rattle.spec_time.specs.caption_time.Kind.{kind_bad, units_of}
use Rattle.spec_time.specs.declared.caption_time.Converted.{Converted}

-- x × by / over, rounded up
unfoldable pub scaled_up : ℕ → ℕ → ℕ → ℕ
scaled_up x by over = (x * by + (over - 1)) / over

-- ticks of a time that was read: units × T / U, rounded down
unfoldable pub ticks_of : (T U units : ℕ) → ℕ
ticks_of T U units = units * T / U

-- a written start: ticks × U / T, rounded down
unfoldable pub start_units : (T U ticks : ℕ) → ℕ
start_units T U ticks = ticks * U / T

-- a written end: ticks × U / T, rounded up
unfoldable pub end_units : (T U ticks : ℕ) → ℕ
end_units T U ticks = scaled_up ticks U T

-- ---- lone conversions
-- T is outside 1 to 1,000,000,000 (15)
unfoldable pub timescale_bad : ℕ → Bool
timescale_bad T = cond (ltb T 1) true (ltb most_timescale T)

-- T first, then the kind
unfoldable pub setting_number : (kind T : ℕ) → ℕ
setting_number kind T = fault_unless (not (timescale_bad T)) 15 or_else fault_unless (not (kind_bad kind)) 16

-- and then the value: units to 2^36, ticks to 2^53
unfoldable pub units_number : (kind T units : ℕ) → ℕ
units_number kind T units = setting_number kind T or_else fault_unless (leb units most_units) 16

unfoldable pub ticks_number : (kind T ticks : ℕ) → ℕ
ticks_number kind T ticks = setting_number kind T or_else fault_unless (leb ticks most_ticks) 16

-- the number, and the value; 0 for it where the conversion is refused
unfoldable pub converted_to : (number value : ℕ) → Converted
converted_to number value = record { number = number; value = cond (eqb number 0) value 0 }

-- ---- the conversions of captions: exact for the kinds, for T from 1 to `core_timescale` and for values to `core_units` and `core_ticks`, and 0 beyond
abbrev pub core_timescale : ℕ
core_timescale = 1000000000

abbrev pub core_units : ℕ
core_units = 2 ^ 37

abbrev pub core_ticks : ℕ
core_ticks = most_ticks + 1

unfoldable pub core_holds : (kind T value most : ℕ) → Bool
core_holds kind T value most =
    cond (kind_bad kind) false
    (cond (ltb T 1) false
    (cond (ltb core_timescale T) false
    (leb value most)))

unfoldable pub ticks_within : (kind T units : ℕ) → ℕ
ticks_within kind T units = cond (core_holds kind T units core_units) (ticks_of T (units_of kind) units) 0

unfoldable pub start_within : (kind T ticks : ℕ) → ℕ
start_within kind T ticks = cond (core_holds kind T ticks core_ticks) (start_units T (units_of kind) ticks) 0

unfoldable pub end_within : (kind T ticks : ℕ) → ℕ
end_within kind T ticks = cond (core_holds kind T ticks core_ticks) (end_units T (units_of kind) ticks) 0
