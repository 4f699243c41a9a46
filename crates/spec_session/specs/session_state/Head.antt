-- The numbers of a session apart from the bytes that it holds: the model's session that they stand for together, and the numbers of one.
use Rattle.std.specs.Prelude.{List, ℕ, length}
use Rattle.spec_ass.specs.declared.ass_columns.Columns.{Columns}
use Rattle.spec_machine.specs.session_counts.Session as model
use Rattle.spec_session.specs.declared.session_state.Head.{Head}

abbrev pub view_of : Head → (held : List ℕ) → model.Session Columns
view_of h held =
    record {
      config = h.config;
      taken = h.taken;
      lines = h.lines;
      held = held;
      known = h.columns;
      counts = h.counts;
      outcome = h.outcome;
      ended = h.ended;
    }

abbrev pub head_of : model.Session Columns → Head
head_of t =
    record {
      config = t.config;
      ended = t.ended;
      outcome = t.outcome;
      taken = t.taken;
      lines = t.lines;
      counts = t.counts;
      columns = t.known;
      held_len = length t.held;
    }
