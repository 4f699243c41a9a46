-- The worked example: document 01's map, a session just opened, and four calls: a feed, the same text's rest lent an output one byte too short (16),
-- the rest again, a finish.
use Rattle.std.specs.Prelude.{Bool, List, [], ◌∷◌, ℕ, length}
use Rattle.spec_map.specs.segment.Segment.{segment, flat_of}
use Rattle.spec_map.specs.segmap.Map.{Map}
use Rattle.spec_caption.specs.caption_fate.Emit.{Warning, output_of, warnings_of}
use Rattle.spec_ass.specs.declared.ass_columns.Columns.{Columns}
use Rattle.table.specs.Example.{the_map, setting}
use Rattle.spec_machine.specs.declared.session_counts.Counts.{Counts}
use Rattle.spec_machine.specs.session_counts.Counts.{counts_of}
use Rattle.spec_machine.specs.session_counts.Session.{Call, fresh}
use Rattle.spec_machine.specs.session_counts.Calls.{Played, Heard, new_reader, hear, reading_of, emits_in}
use Rattle.spec_machine.specs.kinds.Kit.{kit}
use Rattle.spec_session.specs.session_state.View.{stored}
use Rattle.spec_session.specs.declared.session.Opened.{Opened}
use Rattle.spec_session.specs.session.SessionCalls.{feed_call, finish_call}
use Rattle.promise.specs.Plain.{plain_read}
use Rattle.promise.specs.Runs.{Made}
use Rattle.promise.specs.Promise.{config_of}
use Rattle.example.specs.Calls.{Asked, feeding, finishing, makes}

-- the map of the example's bytes, as it is lent, and the numbers that it is
abbrev pub lent_map : List ℕ
lent_map = flat_of the_map.segments

abbrev pub plain_map : Map
plain_map = record { number = 0; timescale = 30000; count = 2; segments = segment 0 3 0 3 0 3003 ∷ segment 6 10 6006 4 3003 4004 ∷ [] }

-- what open answers
abbrev pub open_answer : (kind : ℕ) → Opened
open_answer kind = record { number = 0; session = stored (fresh kit (setting kind)) }

-- the four calls, as they are lent and by their lengths
abbrev pub four : (map first rest out short places : List ℕ) → List Asked
four m first rest out short places =
    feeding m first out places ∷ feeding m rest short places ∷ feeding m rest out places ∷ finishing m out places ∷ []

abbrev pub four_calls : (map first rest : List ℕ) → (out short places : ℕ) → List Call
four_calls m first rest o s w = feed_call m first o w ∷ feed_call m rest s w ∷ feed_call m rest o w ∷ finish_call m o w ∷ []

-- made from the session that open answered, each result as its contract says
abbrev pub made_calls : (kind : ℕ) → (first rest out short places : List ℕ) → List Made
made_calls kind first rest out short places = makes (open_answer kind).session (four lent_map first rest out short places)

-- what a caller has in hand after a list
pub record Told : Type 0 where
  pub numbers : List ℕ
  pub output : List ℕ
  pub warnings : List Warning
  pub outcome : ℕ
  pub counts : Counts
  pub taken : ℕ
  pub ended : Bool

-- by the calls that were made
abbrev pub told_by : Played Columns → Told
told_by p =
    record {
      numbers = p.numbers;
      output = p.output;
      warnings = p.warnings;
      outcome = p.session.outcome;
      counts = p.session.counts;
      taken = p.session.taken;
      ended = p.session.ended;
    }

-- by the plain reader, through a map
abbrev pub read_by : (kind : ℕ) → Map → Heard → Told
read_by kind x h =
    record {
      numbers = h.numbers;
      output = output_of (emits_in (plain_read kind) (config_of kind x.timescale) (flat_of x.segments) h.reader);
      warnings = warnings_of (emits_in (plain_read kind) (config_of kind x.timescale) (flat_of x.segments) h.reader);
      outcome = (reading_of (plain_read kind) h.reader).fault;
      counts = counts_of (emits_in (plain_read kind) (config_of kind x.timescale) (flat_of x.segments) h.reader);
      taken = length h.reader.text;
      ended = h.reader.ended;
    }

-- the plain reader on the four calls, the map being the example's
abbrev pub plain_four : (kind : ℕ) → (first rest : List ℕ) → Heard
plain_four kind first rest = hear (plain_read kind) new_reader (four_calls (flat_of plain_map.segments) first rest 32768 32767 4096)
