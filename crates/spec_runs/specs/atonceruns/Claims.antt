-- DEMAND 3 of `retimer_text`: of every call that it does not refuse, through every map that open accepts, the number is the plain reader's for the whole text, and
-- output, warnings and counts, taken from the lent places as far as was told, are what that text says, every caption with its true fate (promise/specs/Demand).
-- `TextPromise` through every map that open accepts; `TextChain` through the map that `retimer_map` wrote; `TextFed`: every list of calls that takes the same text
-- and finishes it writes the same.
use Rattle.std.specs.Prelude.{◌≡◌, true, false, List, ℕ, ◌+◌, ◌*◌, length, take, get_or}
use Rattle.spec_base.specs.base.Put.{put}
use Rattle.spec_time.specs.caption_time.Kind.{kind_bad}
use Rattle.spec_map.specs.segment.Segment.{segments_of, flat_of}
use Rattle.spec_map.specs.segmap.Map.{map_of}
use Rattle.spec_caption.specs.caption_fate.Says.{Part, captions_in}
use Rattle.spec_caption.specs.caption_fate.Emit.{Emit, Warning, output_of, warnings_of}
use Rattle.spec_ass.specs.declared.ass_columns.Columns.{Columns}
use Rattle.spec_machine.specs.session_counts.Counts.{how_many, was_shifted, was_clipped, was_dropped, was_passed}
use Rattle.spec_machine.specs.session_counts.Session.{Call, emitted}
use Rattle.spec_machine.specs.session_counts.Calls.{Played}
use Rattle.promise.specs.Plain.{plain_read}
use Rattle.promise.specs.Again.{AllAgain}
use Rattle.promise.specs.Demand.{AllRight, passings, heard, Demand}
use Rattle.promise.specs.Promise.{config_of}
use Rattle.promise.specs.Runs.{warnings_in}
use Rattle.spec_runs.specs.one_call.Text.{lengths_fault, refused_with, Retimed}

-- ---- what a caller takes: as many bytes and places as were told, and the other told numbers
abbrev pub text_told : (out told : List ℕ) → List ℕ
text_told out told = take (get_or told 0 0) out

abbrev pub warnings_told : (places told : List ℕ) → List Warning
warnings_told places told = warnings_in (take (get_or told 1 0) places)

-- ---- what is promised of it
module _ (kind T : ℕ) (m text : List ℕ) where
  -- what the plain reader has read of the whole text, and that put through the map
  abbrev pub said_of : List Part
  said_of = (plain_read kind true text).parts

  abbrev pub put_through : List Emit
  put_through = emitted (config_of kind T) m said_of

  pub record TextHolds (number : ℕ) (out places told : List ℕ) : Type 0 where
    pub number_is : number ≡ (plain_read kind true text).fault
    pub output : text_told out told ≡ output_of put_through
    pub warnings : warnings_told places told ≡ warnings_of put_through
    -- each count is the number of captions with that fate, and they are together the captions decided, counted from the text alone
    pub shifted : get_or told 2 0 ≡ how_many was_shifted put_through
    pub clipped : get_or told 3 0 ≡ how_many was_clipped put_through
    pub dropped : get_or told 4 0 ≡ how_many was_dropped put_through
    pub passed : get_or told 5 0 ≡ how_many was_passed put_through
    pub sum : captions_in said_of ≡ get_or told 2 0 + get_or told 3 0 + get_or told 4 0 + get_or told 5 0
    -- passed counts warnings 1 and 2
    pub passings_are : get_or told 5 0 ≡ passings (warnings_told places told)
    pub taken : get_or told 6 0 ≡ length text
    -- every caption has its true fate, its bytes and its warnings; one that is written, read again, gives the times written
    pub fates : AllRight (config_of kind T) (segments_of m) said_of
    pub again : AllAgain kind said_of

abbrev pub TextPromise : Type 0
TextPromise =
    (kind T : ℕ) (m text out out' places places' told told' : List ℕ) (number : ℕ)
    → Retimed kind T m text out out' places places' told told' number
    → refused_with kind T m (length text) (length out) (length places) (length told) ≡ 0
    → TextHolds kind T m text number out' places' told'

-- a sheet and a list that `retimer_map` accepts, and the numbers that it wrote, as many as it told, with the timescale that it told: the text is not refused where the
-- kind is known and the lengths are enough
abbrev pub TextChain : Type 0
TextChain =
    (sheet list : List ℕ) (direction work kind : ℕ) (map map' text out out' places places' told told' : List ℕ) (number : ℕ)
    → (map_of sheet list direction (length map) work).number ≡ 0
    → map' ≡ put (flat_of (map_of sheet list direction (length map) work).segments) map
    → kind_bad kind ≡ false → lengths_fault (length text) (length out) (length places) (length told) ≡ 0
    → Retimed kind (map_of sheet list direction (length map) work).timescale (take (6 * (map_of sheet list direction (length map) work).count) map') text out out' places places' told told' number
    → TextHolds kind (map_of sheet list direction (length map) work).timescale (take (6 * (map_of sheet list direction (length map) work).count) map') text number out' places' told'

-- a list of calls that takes the same text and finishes it
pub record SameText (kind T : ℕ) (m text : List ℕ) (xs : List Call) (p : Played Columns) (number : ℕ) (out places told : List ℕ) : Type 0 where
  pub output : p.output ≡ text_told out told
  pub warnings : p.warnings ≡ warnings_told places told
  pub outcome : p.session.outcome ≡ number
  pub shifted : p.session.counts.shifted ≡ get_or told 2 0
  pub clipped : p.session.counts.clipped ≡ get_or told 3 0
  pub dropped : p.session.counts.dropped ≡ get_or told 4 0
  pub passed : p.session.counts.passed ≡ get_or told 5 0

abbrev pub TextFed : Type 0
TextFed =
    (kind T : ℕ) (m text out places told : List ℕ) (number : ℕ) → TextHolds kind T m text number out places told
    → (xs : List Call) (p : Played Columns) → Demand (config_of kind T) m xs p
    → (heard (config_of kind T) xs).reader.text ≡ text → (heard (config_of kind T) xs).reader.finished ≡ true
    → SameText kind T m text xs p number out places told
