-- What open, feed and finish answer: number, lengths, the whole session, and what stands in the lent output and places afterwards.
use Rattle.std.specs.Prelude.{◌≡◌, Bool, true, false, ◌||◌, List, [], ◌∷◌, ℕ, ◌+◌, ltb, length, take, replicate}
use Rattle.spec_base.specs.base.Limits.{most_piece, least_output, least_places, most_taken, most_held}
use Rattle.spec_base.specs.base.Put.{put}
use Rattle.spec_text.specs.text.Line.{concat}
use Rattle.spec_map.specs.segment.Segment.{map_bad}
use Rattle.spec_caption.specs.declared.caption_fate.Config.{Config}
use Rattle.spec_caption.specs.caption_fate.Emit.{output_of, warnings_of, places_of}
use Rattle.spec_ass.specs.declared.ass_columns.Columns.{Columns}
use Rattle.spec_machine.specs.declared.session_counts.Counts.{Counts}
use Rattle.spec_machine.specs.session_counts.Cut.{closed_lines}
use Rattle.spec_machine.specs.session_counts.Session.{Lent, Call, feed, finish, Gate, refuse, admit, gate, argument_bad, lent_of, answer, open_session}
use Rattle.spec_machine.specs.session_counts.Session as model
use Rattle.spec_machine.specs.kinds.Takes.{no_columns}
use Rattle.spec_machine.specs.kinds.Kit.{kit}
use Rattle.spec_session.specs.declared.session_state.Session.{Session}
use Rattle.spec_session.specs.session_state.View.{view, stored, foreign_of}
use Rattle.spec_session.specs.declared.session.Fed.{Fed}
use Rattle.spec_session.specs.declared.session.Opened.{Opened}
use Rattle.spec_session.specs.declared.session.Going.{Going}

-- ---- a call of the functions, as the model has it
abbrev pub lent : (map : List ℕ) → (out places : ℕ) → Lent
lent m o w = record { map = m; out_length = o; place_count = w }

abbrev pub feed_call : (map piece : List ℕ) → (out places : ℕ) → Call
feed_call m piece o w = feed (lent m o w) piece

abbrev pub finish_call : (map : List ℕ) → (out places : ℕ) → Call
finish_call m o w = finish (lent m o w)

unfoldable pub answer_of : Session → Call → model.Answer Columns
answer_of s x = answer kit (view s) x

-- ---- refusals: 17, 18, 15, 16 in this order
unfoldable pub session_gate : Session → Call → Gate
session_gate s x = gate (foreign_of s) s.ended (map_bad (lent_of x).map) (argument_bad s.taken x)

abbrev pub gate_number : Gate → ℕ
gate_number (refuse k) = k
gate_number admit = 0

-- 16, by the lengths alone
abbrev pub lengths_bad : (taken piece out places : ℕ) → Bool
lengths_bad t p o w = ltb most_piece p || (ltb o least_output || (ltb w least_places || ltb most_taken (t + p)))

-- the number by which a call is refused, or 0
unfoldable pub refusal_of : Session → (map : List ℕ) → (piece out places : ℕ) → ℕ
refusal_of s m p o w = gate_number (gate (foreign_of s) s.ended (map_bad m) (lengths_bad s.taken p o w))

-- ---- the session afterwards
-- a refused call and an empty piece return the session itself; any other call the model's, with zeros behind the held bytes
abbrev pub next_by : Gate → Session → Call → model.Session Columns → Session
next_by (refuse k) s x t = s
next_by admit s (feed l []) t = s
next_by admit s (feed l (b ∷ p)) t = stored t
next_by admit s (finish l) t = stored t

unfoldable pub next_of : Session → Call → Session
next_of s x = next_by (session_gate s x) s x (answer_of s x).session

-- ---- feed and finish: bytes and places past what was written are as they were
pub record Answered (s : Session) (x : Call) (r : Fed) (out out' places places' : List ℕ) : Type 0 where
  pub number : r.number ≡ (answer_of s x).number
  pub written : r.written ≡ length (output_of (answer_of s x).emits)
  pub warned : r.warned ≡ length (places_of (warnings_of (answer_of s x).emits))
  pub session : r.session ≡ next_of s x
  pub text : out' ≡ put (output_of (answer_of s x).emits) out
  pub warnings : places' ≡ put (places_of (warnings_of (answer_of s x).emits)) places

-- ---- open
unfoldable pub open_of : (kind timescale : ℕ) → (map : List ℕ) → model.Answer Columns
open_of kind timescale m = open_session kit (record { kind = kind; timescale = timescale }) m

pub record OpenAnswered (kind timescale : ℕ) (m : List ℕ) (r : Opened) : Type 0 where
  pub number : r.number ≡ (open_of kind timescale m).number
  pub session : r.session ≡ stored (open_of kind timescale m).session

-- ---- for the private functions
-- an ended session keeps its config, outcome, taken and counts
abbrev pub ended_session : Config → (outcome taken : ℕ) → Counts → Session
ended_session c k t n =
    record {
      config = c;
      ended = true;
      outcome = k;
      taken = t;
      lines = 0;
      counts = n;
      columns = no_columns;
      held_len = 0;
      held = replicate most_held 0;
    }

-- the session as it came, with a number
abbrev pub unchanged_fed : ℕ → Session → Fed
unchanged_fed k s = record { number = k; written = 0; warned = 0; session = s }

-- the text ended, as the loop's numbers stand
abbrev pub ended_fed : Config → (taken : ℕ) → Going → Fed
ended_fed c t r = record { number = r.number; written = r.written; warned = r.warned; session = ended_session c r.number t r.counts }

-- the text goes on, with what is held
abbrev pub held_fed : Config → (outcome taken : ℕ) → Going → (held : List ℕ) → Fed
held_fed c k t r held =
    record {
      number = 0;
      written = r.written;
      warned = r.warned;
      session =
          record {
            config = c;
            ended = false;
            outcome = k;
            taken = t;
            lines = r.lines;
            counts = r.counts;
            columns = r.columns;
            held_len = r.held;
            held = held;
          };
    }

-- where a call begins
abbrev pub begin_at : Session → Going
begin_at s =
    record {
      number = 0;
      lines = s.lines;
      counts = s.counts;
      columns = s.columns;
      start = length (concat (closed_lines (take s.held_len s.held)));
      held = s.held_len;
      written = 0;
      warned = 0;
    }
