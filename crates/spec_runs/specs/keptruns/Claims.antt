-- DEMAND 3 of `retimer_open`, `retimer_feed` and `retimer_finish`: for every list of feeds and finishes, refused ones included, over the 9,216 bytes that open
-- left, each given the bytes that the last call left, the number of every call, joined output, warnings, outcome and counts are the plain reader's for the whole text
-- taken, and every caption has its true fate (promise/specs/Demand). `KeptPromise` through every map that open accepts; `KeptChain` through the map that
-- `retimer_map` wrote.
use Rattle.std.specs.Prelude.{◌≡◌, false, List, ℕ, ◌≤◌, ◌*◌, length, take}
use Rattle.spec_base.specs.base.Put.{put}
use Rattle.spec_time.specs.caption_time.Kind.{kind_bad}
use Rattle.spec_map.specs.segment.Segment.{flat_of}
use Rattle.spec_map.specs.segmap.Map.{map_of}
use Rattle.spec_machine.specs.session_counts.Calls.{Proper}
use Rattle.spec_parked_blocks.specs.parked_blocks.Sealed.{sealed_length}
use Rattle.promise.specs.Demand.{Demand}
use Rattle.promise.specs.Promise.{config_of}
use Rattle.spec_parking.specs.session_bytes.ByteCalls.{open_number, open_bytes}
use Rattle.spec_runs.specs.keptruns.Kept.{KeptCall, kept_calls, KeptRan, kept_outcome}

-- the bytes that a caller hands to the first call
abbrev pub first_bytes : (kind T : ℕ) (map lent : List ℕ) → List ℕ
first_bytes kind T m lent = take sealed_length (open_bytes kind T m lent)

abbrev pub KeptDemand : (kind T : ℕ) (map lent : List ℕ) → Type 0
KeptDemand kind T m lent =
    (xs : List KeptCall) → Proper m (kept_calls xs) → KeptRan (first_bytes kind T m lent) xs
    → Demand (config_of kind T) m (kept_calls xs) (kept_outcome (first_bytes kind T m lent) xs)

abbrev pub KeptPromise : Type 0
KeptPromise = (kind T : ℕ) (m lent : List ℕ) → open_number kind T m (length lent) ≡ 0 → KeptDemand kind T m lent

-- a sheet and a list that `retimer_map` accepts, the numbers that it wrote, as many as it told, and open with them and the timescale that it told
pub record ChainHolds (kind T : ℕ) (map lent : List ℕ) : Type 0 where
  pub opens : open_number kind T map (length lent) ≡ 0
  pub kept : KeptDemand kind T map lent

abbrev pub KeptChain : Type 0
KeptChain =
    (sheet list : List ℕ) (direction work kind : ℕ) (map map' lent : List ℕ)
    → (map_of sheet list direction (length map) work).number ≡ 0
    → map' ≡ put (flat_of (map_of sheet list direction (length map) work).segments) map
    → kind_bad kind ≡ false → sealed_length ≤ length lent
    → ChainHolds kind (map_of sheet list direction (length map) work).timescale (take (6 * (map_of sheet list direction (length map) work).count) map') lent
