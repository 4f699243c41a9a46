-- DEMAND 3, from the bytes of a sheet and a trim list to the last caption. Its words, and where each stands:
--
-- "Suppose a sheet and trim list are accepted, the map that 01 defines is built from them, and a fresh session is opened with it and the sheet's
-- timescale T." The premises of `Promise`: `map_of` of the bytes answers 0, and open met its contract with the map's numbers and its timescale.
-- "For every list of feeds and finishes through that map, refused ones included, each given the session that the last call returned," `Kept`: a
-- list of calls made (`Made`), each lent the map or one that 15 refuses (`Proper`), each meeting its contract with the session of the last (`Ran`).
-- "the number of every call is the one that 01's plain reader gives. After the list, joined output, warnings in order, outcome and all counts are
-- the reader's for the whole text taken." `AsSaid`, over `plain_read` (specs/Plain): there are emits, right for each part that the reader has read, and
-- what the calls wrote, joined, is theirs. Such emits are the only ones, and can be computed (specs/Stronger).
-- "Captions decided = shifted + clipped + dropped + passed." AsSaid: `sum`, and `counts`: each of the four is the number
-- of captions with that fate; and `passed` counts warnings 1 and 2.
-- "A decided one whose times are read is dropped exactly when, in ticks rounded down, no stretch of positive length ends after its start and
-- starts before its end." AsSaid: `right`, of a cue `CueRight` (specs/Demand), with spec_caption/specs/caption_fate/Fates: `Right`, `NoneMeets`.
-- "Otherwise both ticks, cut to the first such stretch, move by its shift d." spec_caption/specs/caption_fate/Fates: `IsKept`, `FirstMet`.
-- "Unclipped, with S, E read and s, e written in 1/U second (ASS 100, SRT 1000): S×T + U×d − U − T < s×T ≤ S×T + U×d and
-- E×T + U×d − U < e×T < E×T + U×d + T, however many stretches come before." The same definitions, by spec_caption/specs/caption_time/Near: `NearStart`, `NearEnd`.
-- Beside its words: open answers 0 (`opens`).
use Rattle.std.specs.Prelude.{◌≡◌, false, ℕ, length}
use mathlib.Core.List.{List, map, flat_map, Forall₂}
use Rattle.spec_time.specs.caption_time.Kind.{kind_bad}
use Rattle.spec_map.specs.declared.segment.Segment.{Segment}
use Rattle.spec_map.specs.segment.Segment.{segments_of, flat_of}
use Rattle.spec_map.specs.segmap.Map.{map_of}
use Rattle.spec_caption.specs.declared.caption_fate.Config.{Config}
use Rattle.spec_caption.specs.caption_fate.Says.{captions_in}
use Rattle.spec_caption.specs.caption_fate.Emit.{Emit}
use Rattle.spec_machine.specs.session_counts.Counts.{total, CountedBy}
use Rattle.spec_machine.specs.session_counts.Calls.{Proper, new_reader, numbers_heard}
use Rattle.spec_session.specs.declared.session_state.Session.{Session}
use Rattle.spec_session.specs.declared.session.Opened.{Opened}
use Rattle.spec_session.specs.session.SessionCalls.{OpenAnswered}
use Rattle.promise.specs.Plain.{plain_read}
use Rattle.promise.specs.Demand.{PartRight, passings, reader_in, said_in}
use Rattle.promise.specs.Runs.{Made, calls_of, Ran, written_by, warned_by, last_of}

abbrev pub config_of : (kind timescale : ℕ) → Config
config_of kind T = record { kind = kind; timescale = T }

-- what a list of calls left, from the session s, through the map's segments m
pub record AsSaid (c : Config) (m : List Segment) (s : Session) (cs : List Made) : Type 0 where
  -- the number of every call is the plain reader's
  pub numbers : map (λ x. x.result.number) cs ≡ numbers_heard (plain_read c.kind) new_reader (calls_of cs)
  -- every caption has its true fate, its bytes and its warnings, and what lies between captions stays
  pub emits : List Emit
  pub right : Forall₂ (PartRight c m) (said_in c (calls_of cs)).parts emits
  pub output : flat_map written_by cs ≡ flat_map (λ e. e.out) emits
  pub warnings : flat_map warned_by cs ≡ flat_map (λ e. e.warnings) emits
  -- the reader's first fault, or 0
  pub outcome : (last_of s cs).outcome ≡ (said_in c (calls_of cs)).fault
  -- each count is the number of captions with that fate
  pub counts : CountedBy emits (last_of s cs).counts
  -- captions decided, counted from the text alone, are shifted + clipped + dropped + passed
  pub sum : captions_in (said_in c (calls_of cs)).parts ≡ total (last_of s cs).counts
  -- passed counts warnings 1 and 2
  pub passed : (last_of s cs).counts.passed ≡ passings (flat_map warned_by cs)
  pub taken : (last_of s cs).taken ≡ length (reader_in c (calls_of cs)).text
  pub ended : (last_of s cs).ended ≡ (reader_in c (calls_of cs)).ended

-- what is promised of the session that open returned: for every list of feeds and finishes, refused ones included, each lent the map or one that
-- 15 refuses and each given the session that the last call returned, numbers, bytes, warnings, outcome and counts are as the text says
abbrev pub Kept : (kind timescale : ℕ) → (map : List ℕ) → List Segment → Opened → Type 0
Kept kind T m xs o = (cs : List Made) → Proper m (calls_of cs) → Ran o.session cs → AsSaid (config_of kind T) xs o.session cs

-- through every map that open accepts
abbrev pub PromiseOpened : Type 0
PromiseOpened = (kind T : ℕ) (m : List ℕ) (o : Opened) → OpenAnswered kind T m o → o.number ≡ 0 → Kept kind T m (segments_of m) o

-- and of a map of records: its flat numbers are lent, and every caption has its true fate over the records themselves
abbrev pub PromiseRecords : Type 0
PromiseRecords = (kind T : ℕ) (xs : List Segment) (o : Opened) → OpenAnswered kind T (flat_of xs) o → o.number ≡ 0 → Kept kind T (flat_of xs) xs o

-- the map xs, lent as its flat numbers
pub record Holds (kind T : ℕ) (xs : List Segment) (o : Opened) : Type 0 where
  pub opens : o.number ≡ 0
  pub kept : Kept kind T (flat_of xs) xs o

-- a sheet and a trim list that are accepted, the map built from them in either direction, and a fresh session of any kind opened with it and the
-- sheet's T: open answers 0, and the promise is kept
abbrev pub Promise : Type 0
Promise =
    (sheet list : List ℕ) (direction lent work kind : ℕ) → (map_of sheet list direction lent work).number ≡ 0 → kind_bad kind ≡ false
    → (o : Opened) → OpenAnswered kind (map_of sheet list direction lent work).timescale (flat_of (map_of sheet list direction lent work).segments) o
    → Holds kind (map_of sheet list direction lent work).timescale (map_of sheet list direction lent work).segments o
