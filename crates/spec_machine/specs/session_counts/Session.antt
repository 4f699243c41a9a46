-- The session: open, feed and finish as functions of values.
use Rattle.std.specs.Prelude.{Bool, true, false, ◌||◌, ◌&&◌, not, List, [], ℕ, ◌+◌, ltb, leb, eqb, length}
use Rattle.spec_base.specs.base.Limits.{most_piece, least_output, least_places, most_taken}
use Rattle.spec_text.specs.text.Line.{line_count}
use Rattle.spec_time.specs.caption_time.Kind.{kind_bad}
use Rattle.spec_time.specs.caption_time.Convert.{timescale_bad}
use Rattle.spec_map.specs.segment.Segment.{segments_of, map_bad}
use Rattle.spec_caption.specs.declared.caption_fate.Config.{Config}
use Rattle.spec_caption.specs.caption_fate.Says.{Part}
use Rattle.spec_caption.specs.caption_fate.Emit.{Emit, emits_of}
use Rattle.spec_machine.specs.declared.session_counts.Counts.{Counts}
use Rattle.spec_machine.specs.session_counts.Counts.{no_counts, count_all}
use Rattle.spec_machine.specs.session_counts.Cut.{closed_lines}
use Rattle.spec_machine.specs.session_counts.Machine.{Machine, Run, going, stopped, run, finish_run}

abbrev pub config_bad : Config → Bool
config_bad c = kind_bad c.kind || timescale_bad c.timescale

-- held: the unfinished line, in SRT and WebVTT behind the open block's lines. κ is what else is known between two lines
pub record Session (κ : Type 0) : Type 0 where
  pub config : Config
  pub taken : ℕ
  pub lines : ℕ
  pub held : List ℕ
  pub known : κ
  pub counts : Counts
  pub outcome : ℕ
  pub ended : Bool

-- the kinds: their machines, how a session keeps a state and an unfinished line, and what it can't hold (17)
pub record Kit (σ κ : Type 0) : Type 0 where
  pub machine : (kind : ℕ) → Machine σ
  pub known : σ → κ
  pub pack : σ → (line : List ℕ) → List ℕ
  pub state : κ → (held : List ℕ) → σ
  pub open_line : (held : List ℕ) → List ℕ
  pub strange : (kind : ℕ) → κ → (held : List ℕ) → Bool

-- what a call is lent beside the session and the piece: the map as flat numbers, and the lengths of the output and of the warning places
pub record Lent : Type 0 where
  pub map : List ℕ
  pub out_length : ℕ
  pub place_count : ℕ

pub data Call : Type 0 where
  feed : Lent → (piece : List ℕ) → Call
  finish : Lent → Call

abbrev pub lent_of : Call → Lent
lent_of (feed l piece) = l
lent_of (finish l) = l

abbrev pub piece_of : Call → List ℕ
piece_of (feed l piece) = piece
piece_of (finish l) = []

-- 16: a piece too long, an output or warning places too few, or too many bytes taken together
abbrev pub argument_bad : (taken : ℕ) → Call → Bool
argument_bad taken c =
    ltb most_piece (length (piece_of c)) || (ltb (lent_of c).out_length least_output || (ltb (lent_of c).place_count least_places
    || ltb most_taken (taken + length (piece_of c))))

pub data Gate : Type 0 where
  refuse : ℕ → Gate
  admit : Gate

-- the order of the refusals: 17, 18, 15, 16
abbrev pub gate : (foreign ended badMap badArgument : Bool) → Gate
gate true e m a = refuse 17
gate false true m a = refuse 18
gate false false true a = refuse 15
gate false false false true = refuse 16
gate false false false false = admit

-- what a call answers: its number, the session, and what it emitted
pub record Answer (κ : Type 0) : Type 0 where
  pub number : ℕ
  pub session : Session κ
  pub emits : List Emit

abbrev pub counts_above : ℕ → Counts → Bool
counts_above t c = ltb t c.shifted || (ltb t c.clipped || (ltb t c.dropped || ltb t c.passed))

-- what a text can end with: 0, 19 to 22 or 24
unfoldable pub is_outcome : ℕ → Bool
is_outcome k = eqb k 0 || ((leb 19 k && leb k 22) || eqb k 24)

-- no such outcome, or one before the end
unfoldable pub outcome_bad : (ended : Bool) → (outcome : ℕ) → Bool
outcome_bad e k = not (is_outcome k) || (not e && not (eqb k 0))

-- parts through a map of flat numbers
abbrev pub emitted : Config → (map : List ℕ) → List Part → List Emit
emitted c m ps = emits_of c (segments_of m) ps

module _ {σ κ : Type 0} (K : Kit σ κ) where
  -- 17
  abbrev pub foreign : Session κ → Bool
  foreign s =
      config_bad s.config || (ltb most_taken s.taken || (counts_above s.taken s.counts || (ltb s.taken s.lines
      || (ltb s.taken (length s.held) || (K.strange s.config.kind s.known s.held
      || (outcome_bad s.ended s.outcome || ltb s.lines (line_count (closed_lines s.held))))))))

  -- nothing known and nothing taken
  abbrev pub blank_of : Config → (outcome : ℕ) → (ended : Bool) → (taken : ℕ) → Counts → Session κ
  blank_of c k e t n =
      record {
        config = c;
        taken = t;
        lines = 0;
        held = [];
        known = K.known (K.machine c.kind).start;
        counts = n;
        outcome = k;
        ended = e;
      }

  -- a session that has just been opened
  abbrev pub fresh : Config → Session κ
  fresh c = blank_of c 0 false 0 no_counts

  -- refused, open returns an ended session of kind 0, timescale 1, all else zero
  abbrev pub no_session : Session κ
  no_session = blank_of (record { kind = 0; timescale = 1 }) 0 true 0 no_counts

  abbrev pub open_by : Gate → Config → Answer κ
  open_by (refuse k) c = record { number = k; session = no_session; emits = [] }
  open_by admit c = record { number = 0; session = fresh c; emits = [] }

  -- 15 for T or the map, then 16 for the kind
  abbrev pub open_session : Config → (map : List ℕ) → Answer κ
  open_session c m = open_by (gate false false (timescale_bad c.timescale || map_bad m) (kind_bad c.kind)) c

  -- after 19 to 22, 24 or a finish the session is ended and holds nothing
  abbrev pub settle : Session κ → (taken : ℕ) → (map : List ℕ) → Run σ → Answer κ
  settle s t m (going st n h ps) =
      record {
        number = 0;
        session =
            record {
              config = s.config;
              taken = t;
              lines = n;
              held = K.pack st h;
              known = K.known st;
              counts = count_all s.counts (emitted s.config m ps);
              outcome = s.outcome;
              ended = false;
            };
        emits = emitted s.config m ps;
      }
  settle s t m (stopped k ps) =
      record {
        number = k;
        session = blank_of s.config k true t (count_all s.counts (emitted s.config m ps));
        emits = emitted s.config m ps;
      }

  abbrev pub resume : Session κ → Run σ
  resume s = going (K.state s.known s.held) s.lines (K.open_line s.held) []

  -- a faulty piece is taken whole
  abbrev pub accepted : Session κ → Call → Answer κ
  accepted s (feed l piece) = settle s (s.taken + length piece) l.map (run (K.machine s.config.kind) (resume s) piece)
  accepted s (finish l) = settle s s.taken l.map (finish_run (K.machine s.config.kind) (resume s))

  abbrev pub respond : Gate → Session κ → Call → Answer κ
  respond (refuse k) s c = record { number = k; session = s; emits = [] }
  respond admit s c = accepted s c

  abbrev pub gate_of : Session κ → Call → Gate
  gate_of s c = gate (foreign s) s.ended (map_bad (lent_of c).map) (argument_bad s.taken c)

  abbrev pub answer : Session κ → Call → Answer κ
  answer s c = respond (gate_of s c) s c
