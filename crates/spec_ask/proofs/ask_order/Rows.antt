-- Small maps by computation: which ascend; and captions whose order is lost where a premise of request 2.12 is missing.
use mathlib.Core.Path.{◌≡◌, refl}
use mathlib.Core.Bool.{true, false}
use mathlib.Core.List.{List, [], ◌∷◌}
use Prim.Native.Nat.{ℕ}
use Rattle.spec_time.specs.caption_time.Kind.{units_of}
use Rattle.spec_time.specs.caption_time.Convert.{scaled_up, ticks_of, start_units, end_units}
use Rattle.spec_map.specs.declared.segment.Segment.{Segment}
use Rattle.spec_map.specs.segment.Segment.{segment}
use Rattle.spec_caption.specs.declared.caption_fate.Config.{Config}
use Rattle.spec_caption.specs.caption_fate.Hit.{meets_parts, find_from}
use Rattle.spec_caption.specs.caption_fate.Lost.{lost_later}
use Rattle.spec_caption.specs.caption_fate.Decide.{decide_ticks, decide_of}
use Rattle.spec_caption.specs.caption_fate.Fates.{Fate, shifted, clipped, fate_of}
use Rattle.spec_ask.specs.ask_order.Ascending.{steps_back, after, ascends_from, ascends}

-- a segment by source start, output start and duration
abbrev at : (source output duration : ℕ) → Segment
at q o d = segment 0 0 q 0 o d

-- ---- maps
no_segment_lem : ascends [] ≡ true
unfolding ascends ascends_from
no_segment_lem = refl

-- document 01's worked map
worked : ascends (at 0 0 3003 ∷ at 6006 3003 4004 ∷ []) ≡ true
unfolding ascends ascends_from steps_back after
worked = refl

touching : ascends (at 5 0 10 ∷ at 15 10 5 ∷ []) ≡ true
unfolding ascends ascends_from steps_back after
touching = refl

gaps : ascends (at 5 3 10 ∷ at 20 14 5 ∷ []) ≡ true
unfolding ascends ascends_from steps_back after
gaps = refl

source_overlap : ascends (at 5 0 10 ∷ at 14 10 5 ∷ []) ≡ false
unfolding ascends ascends_from steps_back after
source_overlap = refl

output_overlap : ascends (at 5 0 10 ∷ at 15 9 5 ∷ []) ≡ false
unfolding ascends ascends_from steps_back after
output_overlap = refl

-- segments without length: inside others, before and behind them
empty_anywhere : ascends (at 90 90 0 ∷ at 5 0 10 ∷ at 7 7 0 ∷ at 15 10 5 ∷ at 0 0 0 ∷ []) ≡ true
unfolding ascends ascends_from steps_back after
empty_anywhere = refl

-- and they hide no overlap
empty_between : ascends (at 5 0 10 ∷ at 0 0 0 ∷ at 14 10 5 ∷ []) ≡ false
unfolding ascends ascends_from steps_back after
empty_between = refl

-- ---- captions of SRT, where ticks are units
abbrev milliseconds : Config
milliseconds = record { kind = 1; timescale = 1000 }

abbrev Becomes : List Segment → (S E : ℕ) → Fate → Type 0
Becomes m S E f = fate_of milliseconds m S E ≡ f

-- the map does not ascend in the source: 5 to 6 is read before 25 to 26, and written behind it
turned : Becomes (at 20 0 10 ∷ at 0 10 10 ∷ []) 5 6 (shifted 15 16) × Becomes (at 20 0 10 ∷ at 0 10 10 ∷ []) 25 26 (shifted 5 6)
unfolding fate_of decide_of decide_ticks units_of ticks_of start_units end_units scaled_up meets_parts find_from lost_later
turned = (refl, refl)

-- nor in the output alone
turned_output : Becomes (at 0 10 10 ∷ at 20 0 10 ∷ []) 5 6 (shifted 15 16) × Becomes (at 0 10 10 ∷ at 20 0 10 ∷ []) 25 26 (shifted 5 6)
unfolding fate_of decide_of decide_ticks units_of ticks_of start_units end_units scaled_up meets_parts find_from lost_later
turned_output = (refl, refl)

-- the end read is not later, but the start is: 15 to 22 ends behind 5 to 25
start_later : Becomes (at 0 0 10 ∷ at 20 10 10 ∷ []) 15 22 (clipped 10 12) × Becomes (at 0 0 10 ∷ at 20 10 10 ∷ []) 5 25 (clipped 5 10)
unfolding fate_of decide_of decide_ticks units_of ticks_of start_units end_units scaled_up meets_parts find_from lost_later
start_later = (refl, refl)
