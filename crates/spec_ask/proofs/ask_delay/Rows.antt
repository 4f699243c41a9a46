-- Delays by computation: their order, times at zero and below, and small searches. Document 01's worked map in hundredths of a second, the others in milliseconds.
use mathlib.Core.Path.{◌≡◌, refl}
use mathlib.Core.List.{List, [], ◌∷◌}
use Prim.Native.Nat.{ℕ}
use lib.IntN.{pos, negsuc}
use Rattle.std.specs.Prelude.{Some, None}
use Rattle.spec_time.specs.caption_time.Kind.{units_of}
use Rattle.spec_time.specs.caption_time.Convert.{scaled_up, ticks_of, start_units, end_units}
use Rattle.spec_map.specs.declared.segment.Segment.{Segment}
use Rattle.spec_map.specs.segment.Segment.{segment}
use Rattle.spec_caption.specs.caption_fate.Hit.{meets_parts, find_from}
use Rattle.spec_caption.specs.caption_fate.Lost.{lost_later}
use Rattle.spec_caption.specs.caption_fate.Decide.{decide_ticks, decide_of}
use Rattle.spec_caption.specs.caption_fate.Fates.{fate_of}
use Rattle.spec_ask.specs.ask_delay.Delay.{delayed_of, delay_of}
use Rattle.spec_ask.specs.ask_delay.Loss.{exceeds_all, lost_under, too_long, loss_of, floor_of, best_try, tried_of}
use Rattle.spec_ask.specs.ask_delay.Tally.{config_with}

-- ---- the order: 0, 1, −1, 2, −2, and the last two
order : (delay_of 0 ≡ pos 0) × (delay_of 1 ≡ pos 1) × (delay_of 2 ≡ negsuc 0) × (delay_of 3 ≡ pos 2) × (delay_of 4 ≡ negsuc 1)
unfolding delay_of
order = (refl, refl, refl, refl, refl)

ends : (delay_of 11999 ≡ pos 6000) × (delay_of 12000 ≡ negsuc 5999)
unfolding delay_of
ends = (refl, refl)

-- ---- how many are tried: as many as the budget says, up to 12,001
tried : (tried_of 1 ≡ 1) × (tried_of 12000 ≡ 12000) × (tried_of 12001 ≡ 12001) × (tried_of 12002 ≡ 12001)
unfolding tried_of
tried = (refl, refl, refl, refl)

-- ---- exactly zero is not below zero
at_zero : (delayed_of 5 (negsuc 4) ≡ Some 0) × (delayed_of 4 (negsuc 4) ≡ None) × (delayed_of 0 (pos 0) ≡ Some 0)
unfolding delayed_of
at_zero = (refl, refl, refl)

-- ---- searches
-- a segment by source start, output start and duration
abbrev at : (source output duration : ℕ) → Segment
at q o d = segment 0 0 q 0 o d

abbrev worked : List Segment
worked = at 0 0 3003 ∷ at 6006 3003 4004 ∷ []

-- of the tries 0 to k, the place of the best and its loss
abbrev Best : List Segment → (kind T : ℕ) → (captions : List ℕ) → (last place loss : ℕ) → Type 0
Best m kind T cs k p n = (best_try (config_with kind T) m cs k ≡ p) × (loss_of (config_with kind T) m (delay_of p) cs ≡ n)

-- 9 to 12 lies in the first segment whole two units earlier, which is the fifth delay
two_earlier : Best worked 0 30000 (9 ∷ 12 ∷ []) 4 4 0
unfolding best_try loss_of lost_under delayed_of delay_of fate_of decide_of decide_ticks units_of ticks_of start_units end_units scaled_up meets_parts find_from lost_later
two_earlier = (refl, refl)

-- with three tries it is not reached: all lose the caption, and the first of them stays
not_reached : Best worked 0 30000 (9 ∷ 12 ∷ []) 2 0 1
unfolding best_try loss_of lost_under delayed_of delay_of fate_of decide_of decide_ticks units_of ticks_of start_units end_units scaled_up meets_parts find_from lost_later
not_reached = (refl, refl)

-- 1 to 4 is whole at 0; one earlier it starts at zero, two earlier below it
below_zero : (loss_of (config_with 1 1000) (at 0 0 9 ∷ []) (negsuc 0) (1 ∷ 4 ∷ []) ≡ 0) × (loss_of (config_with 1 1000) (at 0 0 9 ∷ []) (negsuc 1) (1 ∷ 4 ∷ []) ≡ 1)
unfolding loss_of lost_under delayed_of fate_of decide_of decide_ticks units_of ticks_of start_units end_units scaled_up meets_parts find_from lost_later
below_zero = (refl, refl)

-- ---- captions that no delay can save: longer than every segment, not as long as one
as_long : floor_of (config_with 1 1000) (at 0 0 3 ∷ at 9 3 0 ∷ []) (5 ∷ 8 ∷ 5 ∷ 9 ∷ 9 ∷ 5 ∷ []) ≡ 1
unfolding floor_of too_long exceeds_all units_of ticks_of
as_long = refl

-- no segment: every caption whose end is later than its start
no_segment_lem : floor_of (config_with 0 30000) [] (0 ∷ 3 ∷ 3 ∷ 3 ∷ 4 ∷ 3 ∷ []) ≡ 1
unfolding floor_of too_long exceeds_all units_of ticks_of
no_segment_lem = refl

-- a segment without length counts among all
empty_segment : floor_of (config_with 0 30000) (at 0 0 0 ∷ []) (0 ∷ 3 ∷ []) ≡ 1
unfolding floor_of too_long exceeds_all units_of ticks_of
empty_segment = refl

-- in hundredths of a second, 30,000 ticks a second: 13 hundredths are 3,900 ticks and not longer than 4,004; 14 are 4,200
hundredths : floor_of (config_with 0 30000) worked (0 ∷ 13 ∷ 0 ∷ 14 ∷ []) ≡ 1
unfolding floor_of too_long exceeds_all units_of ticks_of
hundredths = refl

-- 3 hundredths at one tick a second are no tick, which is not above a segment's 0
no_tick : floor_of (config_with 0 1) (at 0 0 0 ∷ []) (0 ∷ 3 ∷ []) ≡ 0
unfolding floor_of too_long exceeds_all units_of ticks_of
no_tick = refl

-- one unit is a length
one_unit : floor_of (config_with 0 1) [] (3 ∷ 4 ∷ []) ≡ 1
unfolding floor_of too_long exceeds_all units_of ticks_of
one_unit = refl
