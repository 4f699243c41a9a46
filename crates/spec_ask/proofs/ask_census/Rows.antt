-- Counts of starts by computation. Document 01's worked map, in hundredths of a second at 30,000 ticks a second, and small maps in milliseconds.
use mathlib.Core.Path.{◌≡◌, refl}
use mathlib.Core.List.{List, [], ◌∷◌}
use Prim.Native.Nat.{ℕ}
use Rattle.spec_base.specs.base.Refusal.{◌or_else◌, fault_unless}
use Rattle.spec_time.specs.caption_time.Kind.{units_of, kind_bad}
use Rattle.spec_time.specs.caption_time.Convert.{scaled_up, ticks_of, start_units, end_units, timescale_bad}
use Rattle.spec_map.specs.declared.segment.Segment.{Segment}
use Rattle.spec_map.specs.segment.Segment.{segment, segments_of, end_bad, segment_bad, any_bad, map_bad}
use Rattle.spec_ask.specs.ask_order.Ascending.{steps_back, after, ascends_from, ascends}
use Rattle.spec_caption.specs.declared.caption_fate.Config.{Config}
use Rattle.spec_caption.specs.caption_fate.Hit.{meets_parts, find_from}
use Rattle.spec_caption.specs.caption_fate.Lost.{lost_later}
use Rattle.spec_caption.specs.caption_fate.Decide.{decide_ticks, decide_of}
use Rattle.spec_caption.specs.caption_fate.Fates.{fate_of}
use Rattle.spec_ask.specs.declared.ask_census.StartCounts.{StartCounts}
use Rattle.spec_ask.specs.ask_census.Census.{starts_with, census_number, counted_census}

-- a segment by source start, output start and duration
abbrev at : (source output duration : ℕ) → Segment
at q o d = segment 0 0 q 0 o d

abbrev worked : List Segment
worked = at 0 0 3003 ∷ at 6006 3003 4004 ∷ []

abbrev hundredths : Config
hundredths = record { kind = 0; timescale = 30000 }

abbrev milliseconds : Config
milliseconds = record { kind = 1; timescale = 1000 }

abbrev Fares : Config → List Segment → (L N shifted clipped dropped : ℕ) → Type 0
Fares c m L N s k d = ◌≡◌ {A = StartCounts} (counted_census c m L N) (record { number = 0; shifted = s; clipped = k; dropped = d })

-- 0.04 s long, at 0 to 39: whole at 0 to 6 and 21 to 29, cut at 7 to 10, 17 to 20 and 30 to 33
four_hundredths : Fares hundredths worked 4 40 16 12 12
unfolding starts_with fate_of decide_of decide_ticks units_of ticks_of start_units end_units scaled_up meets_parts find_from lost_later
four_hundredths = refl

-- a caption without length is kept where its tick lies inside, its edges excluded: at 1 to 10 of 0 to 11
without_length : Fares hundredths worked 0 12 10 0 2
unfolding starts_with fate_of decide_of decide_ticks units_of ticks_of start_units end_units scaled_up meets_parts find_from lost_later
without_length = refl

no_segment_lem : Fares milliseconds [] 3 5 0 0 5
unfolding starts_with fate_of decide_of decide_ticks units_of ticks_of start_units end_units scaled_up meets_parts find_from lost_later
no_segment_lem = refl

-- a segment without length keeps nothing
empty_segment : Fares milliseconds (at 2 0 0 ∷ []) 3 5 0 0 5
unfolding starts_with fate_of decide_of decide_ticks units_of ticks_of start_units end_units scaled_up meets_parts find_from lost_later
empty_segment = refl

-- a caption that meets several segments is one start: 0 to 4 and 6 to 9, six long, a segment without length between
across : Fares milliseconds (at 0 0 4 ∷ at 5 4 0 ∷ at 6 4 3 ∷ []) 6 10 0 9 1
unfolding starts_with fate_of decide_of decide_ticks units_of ticks_of start_units end_units scaled_up meets_parts find_from lost_later
across = refl

-- ---- no start at all: the tests come before the count, and in their order; the kind and both limits from both sides
-- numbers of a map: one segment that ends at 3003, and two that turn back
abbrev one : List ℕ
one = 0 ∷ 3 ∷ 0 ∷ 3 ∷ 0 ∷ 3003 ∷ []

abbrev turned : List ℕ
turned = 0 ∷ 1 ∷ 20 ∷ 1 ∷ 0 ∷ 5 ∷ 1 ∷ 2 ∷ 0 ∷ 1 ∷ 5 ∷ 5 ∷ []

no_start : (census_number one 0 3 36000001 0 ≡ 15) × (census_number (9 ∷ turned) 1000 3 36000001 0 ≡ 15) × (census_number turned 1000 3 36000001 0 ≡ 28) × (census_number one 1000 3 0 0 ≡ 16)
    × (census_number one 1000 2 36000001 0 ≡ 16) × (census_number one 1000 2 36000000 0 ≡ 0) × (census_number one 1000 2 0 36000001 ≡ 16) × (census_number one 1000 2 0 36000000 ≡ 0)
unfolding census_number ◌or_else◌ fault_unless timescale_bad end_bad segment_bad any_bad map_bad segments_of steps_back after ascends_from ascends kind_bad
no_start = (refl, refl, refl, refl, refl, refl, refl, refl)
