-- Request 2.13. A caption of a given length is tried at the starts 0 to N − 1, in units; how many of them are shifted, clipped and dropped by the
-- caption rules.
use Rattle.std.specs.Prelude.{cond, not, List, ℕ, zero, suc, ◌+◌, leb, eqb}
use Rattle.spec_base.specs.base.Refusal.{◌or_else◌, fault_unless}
use Rattle.spec_time.specs.caption_time.Kind.{kind_bad}
use Rattle.spec_time.specs.caption_time.Convert.{timescale_bad}
use Rattle.spec_map.specs.declared.segment.Segment.{Segment}
use Rattle.spec_map.specs.segment.Segment.{segments_of, map_bad}
use Rattle.spec_caption.specs.declared.caption_fate.Config.{Config}
use Rattle.spec_caption.specs.caption_fate.Fates.{Fate, passed, dropped, shifted, clipped, fate_of}
use Rattle.spec_ask.specs.ask_order.Ascending.{ascends}
use Rattle.spec_ask.specs.declared.ask_census.StartCounts.{StartCounts}

-- the largest count of starts, and the largest length
abbrev pub most_starts : ℕ
most_starts = 36000000

-- ---- one start
abbrev pub is_shifted : Fate → ℕ
is_shifted passed = 0
is_shifted dropped = 0
is_shifted (shifted s e) = 1
is_shifted (clipped s e) = 0

abbrev pub is_clipped : Fate → ℕ
is_clipped passed = 0
is_clipped dropped = 0
is_clipped (shifted s e) = 0
is_clipped (clipped s e) = 1

abbrev pub is_dropped : Fate → ℕ
is_dropped passed = 0
is_dropped dropped = 1
is_dropped (shifted s e) = 0
is_dropped (clipped s e) = 0

-- ---- the starts 0 to N − 1 of captions L units long
unfoldable pub starts_with : (Fate → ℕ) → Config → List Segment → (L N : ℕ) → ℕ
starts_with one c m L zero = 0
starts_with one c m L (suc N) = starts_with one c m L N + one (fate_of c m N (N + L))

-- ---- the answer
-- 15 for T or the map, 28 for a map that 2.12 does not admit, then 16
unfoldable pub census_number : (map : List ℕ) → (T kind L N : ℕ) → ℕ
census_number m T kind L N =
    fault_unless (not (timescale_bad T)) 15 or_else
    fault_unless (not (map_bad m)) 15 or_else
    fault_unless (ascends (segments_of m)) 28 or_else
    fault_unless (not (kind_bad kind)) 16 or_else
    fault_unless (leb L most_starts) 16 or_else
    fault_unless (leb N most_starts) 16

abbrev pub refused_census : ℕ → StartCounts
refused_census k = record { number = k; shifted = 0; clipped = 0; dropped = 0 }

abbrev pub counted_census : Config → List Segment → (L N : ℕ) → StartCounts
counted_census c m L N =
    record {
      number = 0;
      shifted = starts_with is_shifted c m L N;
      clipped = starts_with is_clipped c m L N;
      dropped = starts_with is_dropped c m L N;
    }

-- refused, three zeros stand beside the number
unfoldable pub census_of : (map : List ℕ) → (T kind L N : ℕ) → StartCounts
census_of m T kind L N =
    cond (eqb (census_number m T kind L N) 0)
    (counted_census (record { kind = kind; timescale = T }) (segments_of m) L N)
    (refused_census (census_number m T kind L N))
