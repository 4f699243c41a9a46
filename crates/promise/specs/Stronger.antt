-- Stronger than the promise, and that nothing is lost by its shorter words: the emits of `AsSaid` are the only ones and can be computed, so that
-- `AsSaid` gives `Demand`. The theorems above `promise` cite `Demand`.
use Rattle.std.specs.Prelude.{◌≡◌, false, ℕ}
use mathlib.Core.List.{List, Forall₂}
use Rattle.spec_time.specs.caption_time.Kind.{kind_bad}
use Rattle.spec_time.specs.caption_time.Convert.{timescale_bad}
use Rattle.spec_map.specs.declared.segment.Segment.{Segment}
use Rattle.spec_map.specs.segment.Segment.{segments_of, flat_of}
use Rattle.spec_map.specs.segmap.Map.{map_of}
use Rattle.spec_caption.specs.declared.caption_fate.Config.{Config}
use Rattle.spec_caption.specs.caption_fate.Says.{Part}
use Rattle.spec_caption.specs.caption_fate.Emit.{Emit, emits_of}
use Rattle.spec_machine.specs.session_counts.Calls.{Proper}
use Rattle.spec_session.specs.declared.session_state.Session.{Session}
use Rattle.spec_session.specs.declared.session.Opened.{Opened}
use Rattle.spec_session.specs.session.SessionCalls.{OpenAnswered}
use Rattle.promise.specs.Demand.{PartRight, AllRight, said_in, Demand}
use Rattle.promise.specs.Runs.{Made, calls_of, Ran, outcome}
use Rattle.promise.specs.Promise.{config_of, AsSaid}

-- ---- the emits
-- of two rows of emits that are right for the parts, both are the same
abbrev pub OneRight : Type 0
OneRight = (c : Config) (m : List Segment) (ps : List Part) (es fs : List Emit) → Forall₂ (PartRight c m) ps es → Forall₂ (PartRight c m) ps fs → es ≡ fs

-- and they are those that are computed
abbrev pub RightIsComputed : Type 0
RightIsComputed =
    (c : Config) (m : List Segment) (ps : List Part) (es : List Emit) → timescale_bad c.timescale ≡ false → kind_bad c.kind ≡ false
    → Forall₂ (PartRight c m) ps es → es ≡ emits_of c m ps

-- so the promise's words give the stronger ones
abbrev pub SaidIsDemand : Type 0
SaidIsDemand =
    (c : Config) (m : List ℕ) (s : Session) (cs : List Made) → timescale_bad c.timescale ≡ false → kind_bad c.kind ≡ false
    → AsSaid c (segments_of m) s cs → Demand c m (calls_of cs) (outcome s cs)

-- ---- the promise by `Demand`
abbrev pub DemandKept : (kind timescale : ℕ) → (map : List ℕ) → Opened → Type 0
DemandKept kind T m o = (cs : List Made) → Proper m (calls_of cs) → Ran o.session cs → Demand (config_of kind T) m (calls_of cs) (outcome o.session cs)

-- through every map that open accepts
abbrev pub DemandOpened : Type 0
DemandOpened = (kind T : ℕ) (m : List ℕ) (o : Opened) → OpenAnswered kind T m o → o.number ≡ 0 → DemandKept kind T m o

-- of a map of records
abbrev pub DemandRecords : Type 0
DemandRecords =
    (kind T : ℕ) (xs : List Segment) (o : Opened) → OpenAnswered kind T (flat_of xs) o → o.number ≡ 0
    → (cs : List Made) → Proper (flat_of xs) (calls_of cs) → Ran o.session cs
    → Demand (config_of kind T) (flat_of xs) (calls_of cs) (outcome o.session cs) × AllRight (config_of kind T) xs (said_in (config_of kind T) (calls_of cs)).parts

-- and from the bytes of a sheet and a trim list
pub record DemandHolds (sheet list : List ℕ) (direction lent work kind : ℕ) (o : Opened) : Type 0 where
  pub opens : o.number ≡ 0
  pub kept : DemandKept kind (map_of sheet list direction lent work).timescale (flat_of (map_of sheet list direction lent work).segments) o

abbrev pub DemandBuilt : Type 0
DemandBuilt =
    (sheet list : List ℕ) (direction lent work kind : ℕ) → (map_of sheet list direction lent work).number ≡ 0 → kind_bad kind ≡ false
    → (o : Opened) → OpenAnswered kind (map_of sheet list direction lent work).timescale (flat_of (map_of sheet list direction lent work).segments) o
    → DemandHolds sheet list direction lent work kind o
