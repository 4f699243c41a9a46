-- Whole answers of request 2.14, and a caption turned round whose end falls below zero: by computation. Document 01's worked map in hundredths of a second.
use mathlib.Core.Path.{◌≡◌, refl}
use mathlib.Core.List.{List, [], ◌∷◌}
use Prim.Native.Nat.{ℕ}
use lib.IntN.{ℤ, pos, negsuc}
use Rattle.spec_base.specs.base.Refusal.{◌or_else◌, fault_unless}
use Rattle.spec_time.specs.caption_time.Kind.{kind_bad, units_of}
use Rattle.spec_time.specs.caption_time.Convert.{timescale_bad, scaled_up, ticks_of, start_units, end_units}
use Rattle.spec_map.specs.segment.Segment.{segment, segments_of, end_bad, segment_bad, any_bad, map_bad}
use Rattle.spec_caption.specs.caption_fate.Hit.{meets_parts, find_from}
use Rattle.spec_caption.specs.caption_fate.Lost.{lost_later}
use Rattle.spec_caption.specs.caption_fate.Decide.{decide_ticks, decide_of}
use Rattle.spec_caption.specs.caption_fate.Fates.{fate_of}
use Rattle.spec_ask.specs.declared.ask_delay.Delay.{Delay}
use Rattle.spec_ask.specs.ask_delay.Delay.{delayed_of, delay_of}
use Rattle.spec_ask.specs.ask_delay.Loss.{exceeds_all, lost_under, too_long, loss_of, floor_of, best_try, tried_of, any_late, delay_number}
use Rattle.spec_ask.specs.ask_delay.Tally.{config_with}
use Rattle.spec_ask.specs.ask_delay.BestDelay.{found_delay, delay_answer}

abbrev worked : List ℕ
worked = 0 ∷ 3 ∷ 0 ∷ 3 ∷ 0 ∷ 3003 ∷ 6 ∷ 10 ∷ 6006 ∷ 4 ∷ 3003 ∷ 4004 ∷ []

abbrev told : (number : ℕ) → ℤ → (loss tried off : ℕ) → Delay
told n d l t o = record { number = n; delay = d; loss = l; tried = t; off = o }

-- 9 to 12 is whole two units earlier; 0 to 14 is longer than both segments, and no delay saves it
abbrev two : List ℕ
two = 9 ∷ 12 ∷ 0 ∷ 14 ∷ []

pub answer_rows : (delay_answer worked 30000 0 two 5 ≡ told 0 (negsuc 1) 1 5 0)
    × (delay_answer worked 30000 0 two 1 ≡ told 0 (pos 0) 2 1 1)
    × (delay_answer worked 30000 0 [] 3 ≡ told 0 (pos 0) 0 3 0)
    × (delay_answer worked 30000 3 two 5 ≡ told 16 (pos 0) 0 0 0)
    × (delay_answer worked 30000 3 two 0 ≡ told 29 (pos 0) 0 0 0)
unfolding delay_answer found_delay delay_number any_late tried_of best_try loss_of floor_of too_long exceeds_all lost_under delayed_of delay_of fate_of decide_of decide_ticks units_of kind_bad ticks_of start_units end_units scaled_up meets_parts find_from lost_later timescale_bad map_bad any_bad segment_bad end_bad segments_of ◌or_else◌ fault_unless
answer_rows = (refl, refl, refl, refl, refl)

-- the latest time is 2^36
pub late_rows : any_late (0 ∷ 68719476736 ∷ []) ≡ any_late [] × (delay_number worked 30000 0 (0 ∷ 68719476736 ∷ []) 1 ≡ 0) × (delay_number worked 30000 0 (0 ∷ 68719476737 ∷ []) 1 ≡ 16)
    × (delay_number worked 30000 0 (0 ∷ []) 1 ≡ 16)
unfolding any_late delay_number timescale_bad kind_bad map_bad any_bad segment_bad end_bad segments_of ◌or_else◌ fault_unless
late_rows = (refl, refl, refl, refl)

-- 4 to 2 is kept one earlier; three earlier the start is 1 and the end below zero
pub end_below : (loss_of (config_with 1 1000) (segment 0 0 0 0 0 9 ∷ []) (negsuc 0) (4 ∷ 2 ∷ []) ≡ 0) × (loss_of (config_with 1 1000) (segment 0 0 0 0 0 9 ∷ []) (negsuc 2) (4 ∷ 2 ∷ []) ≡ 1)
unfolding loss_of lost_under delayed_of fate_of decide_of decide_ticks units_of ticks_of start_units end_units scaled_up meets_parts find_from lost_later
end_below = (refl, refl)
