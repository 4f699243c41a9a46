-- How far the lines of a text have led that begins with held bytes: for the private functions.
use Rattle.std.specs.Prelude.{◌≡◌, Bool, true, false, List, [], ◌++◌, ℕ, ◌+◌, ◌-◌, ◌*◌, ◌/◌, ◌≤◌, ◌<◌, length, take, drop}
use Rattle.spec_base.specs.base.Limits.{most_taken, most_line, most_block}
use Rattle.spec_text.specs.utf8.Utf8.{utf8}
use Rattle.spec_text.specs.text.Line.{concat, ends_line, has_lf}
use Rattle.spec_map.specs.segment.Segment.{map_bad}
use Rattle.spec_caption.specs.declared.caption_fate.Config.{Config}
use Rattle.spec_caption.specs.caption_fate.Says.{Part}
use Rattle.spec_cue.specs.block_timing.Style.{blank_in}
use Rattle.spec_ass.specs.declared.ass_columns.Columns.{Columns}
use Rattle.spec_machine.specs.declared.session_counts.Counts.{Counts}
use Rattle.spec_machine.specs.session_counts.Counts.{count_all}
use Rattle.spec_machine.specs.session_counts.Cut.{closed_lines}
use Rattle.spec_machine.specs.session_counts.Machine.{Run, going, stopped, run}
use Rattle.spec_machine.specs.session_counts.Session.{gate, emitted, foreign, resume}
use Rattle.spec_machine.specs.kinds.Takes.{State, no_columns, machine_of}
use Rattle.spec_machine.specs.kinds.Kit.{kit}
use Rattle.spec_session.specs.declared.session_state.Head.{Head}
use Rattle.spec_session.specs.session_state.Head.{view_of}
use Rattle.spec_session.specs.session_lines.Done.{Wrote}
use Rattle.spec_session.specs.session.SessionCalls.{gate_number}
use Rattle.spec_session.specs.session.Stand.{fault_of, parts_in}
use Rattle.spec_session.specs.declared.session_text.TextFed.{TextFed}
use Rattle.spec_session.specs.declared.session_text.Lined.{Lined}
use Rattle.spec_session.specs.session_text.Answer.{text_held, text_new, text_session}

-- ---- a line
-- of at most 4,096 bytes, it begins at i and ends at e, behind its LF
pub record Closed (text : List ℕ) (i e : ℕ) : Type 0 where
  pub lo : i < e
  pub hi : e ≤ length text
  pub near : e ≤ i + most_line
  pub ends : ends_line (take (e - i) (drop i text)) ≡ true

-- where it ends, or 0 where no LF ends it within 4,096 bytes
pub record LineEnd (text : List ℕ) (i e : ℕ) : Type 0 where
  pub closed : (e ≡ 0 → ⊥) → Closed text i e
  pub none : e ≡ 0 → has_lf (take most_line (drop i text)) ≡ false

-- a line behind the n-th only joins the open block, which has `size` bytes with it
pub record Joins (kind n size : ℕ) (line : List ℕ) : Type 0 where
  pub later : n ≡ 0 → ⊥
  pub small : size ≤ most_block
  pub filled : blank_in kind line ≡ false
  pub good : utf8 line ≡ true

-- ---- the start
-- the number by which a call is refused, or 0: 17, 18, 15, 16
unfoldable pub head_refusal : Head → (held map : List ℕ) → (bad : Bool) → ℕ
head_refusal h held m b = gate_number (gate (foreign kit (view_of h held)) h.ended (map_bad m) b)

-- the held unfinished line begins behind the finished ones
abbrev pub line_start : Head → (text : List ℕ) → ℕ
line_start h text = length (concat (closed_lines (text_held h text)))

abbrev pub start_state : Head → (text : List ℕ) → State
start_state h text = record { columns = h.columns; block = closed_lines (text_held h text) }

-- what the refusals leave
pub record Starts (h : Head) (m text : List ℕ) (out places : ℕ) : Type 0 where
  pub sound : foreign kit (text_session h text) ≡ false
  pub map_good : map_bad m ≡ false
  pub long : h.held_len ≤ length text
  pub few : h.taken + (length text - h.held_len) ≤ most_taken
  pub output : 3 * length text ≤ out
  pub placed : length text / 3 + 4 ≤ places

-- ---- on the way
abbrev pub lined_of : (number lines : ℕ) → Counts → Columns → (begin place written warned : ℕ) → Lined
lined_of k n t c b i o w = record { number = k; lines = n; counts = t; columns = c; begin = b; place = i; written = o; warned = w }

-- the lines of the first `place` bytes are taken: the open block stands in the text from `begin` on, and what the lines say stands in the output and the places
pub record Lining (h : Head) (m text : List ℕ) (r : Lined) (out₀ out places₀ places : List ℕ) : Type 0 where
  pub starts : Starts h m text (length out₀) (length places₀)
  pub from : line_start h text ≤ r.place
  pub within : r.place ≤ length text
  pub order : r.begin ≤ r.place
  pub first : r.lines ≡ 0 → r.place ≡ r.begin
  pub state : State
  pub parts : List Part
  pub ran : run (machine_of h.config.kind) (going (start_state h text) h.lines [] []) (take (r.place - line_start h text) (drop (line_start h text) text)) ≡ going state r.lines [] parts
  pub columns : r.columns ≡ state.columns
  pub block : take (r.place - r.begin) (drop r.begin text) ≡ concat state.block
  pub counts : r.counts ≡ count_all h.counts (emitted h.config m parts)
  pub wrote : Wrote h.config m parts r.written r.warned out₀ out places₀ places

-- wherever n lines have led to i, n' lines have led to i', with the same block open and nothing written
abbrev pub Onto : (kind begin : ℕ) → (text : List ℕ) → (n i n' i' : ℕ) → Type 0
Onto kind b text n i n' i' =
    (h : Head) (m : List ℕ) (t : Counts) (k : Columns) (o w : ℕ) (out₀ out places₀ places : List ℕ) → h.config.kind ≡ kind → Lining h m text (lined_of 0 n t k b i o w) out₀ out places₀ places
    → Lining h m text (lined_of 0 n' t k b i' o w) out₀ out places₀ places

-- ---- the end
abbrev pub text_run : Head → (text : List ℕ) → Run State
text_run h text = run (machine_of h.config.kind) (resume kit (text_session h text)) (text_new h text)

-- what is held stands in the text from `begin` on
pub record Keeps (s : State) (n : ℕ) (l : List ℕ) (r : Lined) (text : List ℕ) : Type 0 where
  pub lines : r.lines ≡ n
  pub columns : r.columns ≡ s.columns
  pub within : r.begin ≤ length text
  pub bytes : drop r.begin text ≡ concat s.block ++ l

abbrev pub KeepsIn : Run State → Lined → (text : List ℕ) → Type 0
KeepsIn (going s n l ps) r text = Keeps s n l r text
KeepsIn (stopped k ps) r text = Unit {0}

pub record Ends (h : Head) (m text : List ℕ) (q : Run State) (r : Lined) (out₀ out places₀ places : List ℕ) : Type 0 where
  pub number : r.number ≡ fault_of q
  pub counts : r.counts ≡ count_all h.counts (emitted h.config m (parts_in q))
  pub wrote : Wrote h.config m (parts_in q) r.written r.warned out₀ out places₀ places
  pub keeps : KeepsIn q r text

-- ---- what take_text hands back
-- refused, with a number
abbrev pub unchanged_text : ℕ → Head → TextFed
unchanged_text k h = record { number = k; written = 0; warned = 0; begin = 0; head = h }

-- the text ended by a fault: n bytes are the whole text, t were taken together
abbrev pub ended_text : Config → (t n : ℕ) → Lined → TextFed
ended_text c t n r =
    record {
      number = r.number;
      written = r.written;
      warned = r.warned;
      begin = n;
      head =
          record {
            config = c;
            ended = true;
            outcome = r.number;
            taken = t;
            lines = 0;
            counts = r.counts;
            columns = no_columns;
            held_len = 0;
          };
    }

-- the text goes on
abbrev pub going_text : Config → (outcome t n : ℕ) → Lined → TextFed
going_text c k t n r =
    record {
      number = 0;
      written = r.written;
      warned = r.warned;
      begin = r.begin;
      head =
          record {
            config = c;
            ended = false;
            outcome = k;
            taken = t;
            lines = r.lines;
            counts = r.counts;
            columns = r.columns;
            held_len = n - r.begin;
          };
    }
