-- Worked examples, by computation.
use Prim.Native.Nat.{◌+◌, ◌-◌, ◌^◌}
use mathlib.Core.Path.{◌≡◌, refl}
use Rattle.spec_base.specs.base.Refusal.{◌or_else◌, fault_unless}
use Rattle.spec_time.specs.caption_time.Kind.{kind_bad}
use Rattle.spec_time.specs.caption_time.Convert.{scaled_up, ticks_of, start_units, end_units, timescale_bad, setting_number, units_number, ticks_number, converted_to}

-- ---- conversions: T = 30000, a stretch (source 0, output 0) of 3003 ticks, and one (source 6006, output 3003)
-- 21–25 hundredths through the second: 10–15
moved_caption : (ticks_of 30000 100 21 ≡ 6300) × (start_units 30000 100 (3003 + (6300 - 6006)) ≡ 10) × (ticks_of 30000 100 25 ≡ 7500) × (end_units 30000 100 (3003 + (7500 - 6006)) ≡ 15)
unfolding ticks_of start_units end_units scaled_up
moved_caption = (refl, refl, refl, refl)

-- an end cut at 3003 is written as 11, a start there as 10
cut_caption : (end_units 30000 100 3003 ≡ 11) × (start_units 30000 100 3003 ≡ 10)
unfolding start_units end_units scaled_up
cut_caption = (refl, refl)

-- lone conversions: at the limits, past them, and which refusal comes first
units_limits : (units_number 0 1 (2 ^ 36) ≡ 0) × (units_number 1 1000000 (2 ^ 36 + 1) ≡ 16) × (units_number 2 1000000 (2 ^ 36) ≡ 0) × (units_number 3 1000000 5 ≡ 16) × (units_number 3 0 5 ≡ 15) × (units_number 0 1000000000 5 ≡ 0) × (units_number 0 1000000001 5 ≡ 15)
unfolding units_number setting_number timescale_bad kind_bad fault_unless ◌or_else◌
units_limits = (refl, refl, refl, refl, refl, refl, refl)

ticks_limits : (ticks_number 1 1 (2 ^ 53) ≡ 0) × (ticks_number 0 1 (2 ^ 53 + 1) ≡ 16) × (ticks_number 0 0 (2 ^ 53 + 1) ≡ 15)
unfolding ticks_number setting_number timescale_bad kind_bad fault_unless ◌or_else◌
ticks_limits = (refl, refl, refl)

-- exact at the limits: 2^36 units at T 10^9, where a product of 64 bits is not enough; 2^53 ticks at T 1 and at T 10^9
far_units : (ticks_of 1000000000 100 (2 ^ 36) ≡ 687194767360000000) × (ticks_of 1000000000 1000 (2 ^ 36) ≡ 68719476736000000)
unfolding ticks_of
far_units = (refl, refl)

far_ticks : (start_units 1 1000 (2 ^ 53) ≡ 9007199254740992000) × (end_units 1 1000 (2 ^ 53) ≡ 9007199254740992000) × (start_units 1000000000 100 (2 ^ 53) ≡ 900719925) × (end_units 1000000000 100 (2 ^ 53) ≡ 900719926)
unfolding start_units end_units scaled_up
far_ticks = (refl, refl, refl, refl)

refused_value : ((converted_to (units_number 3 1000 5) 7).value ≡ 0) × ((converted_to (units_number 1 1000 5) 7).value ≡ 7)
unfolding converted_to units_number setting_number timescale_bad kind_bad fault_unless ◌or_else◌
refused_value = (refl, refl)
