-- The model's session that a kept one stands for, the one that is kept for it, and 17.
use Rattle.std.specs.Prelude.{Bool, List, ◌++◌, ℕ, ◌-◌, length, take, replicate}
use Rattle.spec_base.specs.base.Limits.{most_held}
use Rattle.spec_ass.specs.declared.ass_columns.Columns.{Columns}
use Rattle.spec_machine.specs.session_counts.Session as model
use Rattle.spec_machine.specs.kinds.Kit.{kit}
use Rattle.spec_session.specs.declared.session_state.Session.{Session}

-- n bytes of the room l, with zeros where l is shorter: a session that claims more than its room is foreign
unfoldable pub held_of : ℕ → List ℕ → List ℕ
held_of n l = take n l ++ replicate (n - length l) 0

abbrev pub view : Session → model.Session Columns
view s =
    record {
      config = s.config;
      taken = s.taken;
      lines = s.lines;
      held = held_of s.held_len s.held;
      known = s.columns;
      counts = s.counts;
      outcome = s.outcome;
      ended = s.ended;
    }

-- held bytes in their room, zeros behind them
unfoldable pub padded : List ℕ → List ℕ
padded h = h ++ replicate (most_held - length h) 0

unfoldable pub stored : model.Session Columns → Session
stored t =
    record {
      config = t.config;
      ended = t.ended;
      outcome = t.outcome;
      taken = t.taken;
      lines = t.lines;
      counts = t.counts;
      columns = t.known;
      held_len = length t.held;
      held = padded t.held;
    }

-- 17
unfoldable pub foreign_of : Session → Bool
foreign_of s = model.foreign kit (view s)
