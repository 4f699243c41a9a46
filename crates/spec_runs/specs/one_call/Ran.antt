-- For the private functions: a session to start with, and what a run over a whole text leaves.
use Rattle.std.specs.Prelude.{◌≡◌, true, List, ◌∷◌, [], ℕ, ◌≤◌, length}
use Rattle.spec_base.specs.base.Limits.{most_taken}
use Rattle.spec_base.specs.base.Put.{put}
use Rattle.spec_caption.specs.caption_fate.Emit.{output_of, warnings_of, places_of}
use Rattle.spec_caption.specs.declared.caption_fate.Config.{Config}
use Rattle.spec_machine.specs.session_counts.Counts.{counts_of}
use Rattle.spec_session.specs.declared.session_state.Session.{Session}
use Rattle.spec_session.specs.declared.session_state.Head.{Head}
use Rattle.spec_session.specs.session_state.View.{stored}
use Rattle.spec_session.specs.session.SessionCalls.{open_of}
use Rattle.promise.specs.Plain.{plain_read}
use Rattle.spec_runs.specs.declared.one_call.Ran.{Ran}
use Rattle.spec_runs.specs.one_call.Text.{output_for, places_for, emits_for}

-- the session that open returned with 0, and enough lent for a text of n bytes
pub record Ready (s : Session) (map : List ℕ) (n out places : ℕ) : Type 0 where
  pub opens : (open_of s.config.kind s.config.timescale map).number ≡ 0
  pub session : s ≡ stored (open_of s.config.kind s.config.timescale map).session
  pub short : n ≤ most_taken
  pub output : output_for n ≤ out
  pub placed : places_for n ≤ places

-- its numbers, with nothing held
abbrev pub begun_of : Session → Head
begun_of s =
    record {
      config = s.config;
      ended = s.ended;
      outcome = s.outcome;
      taken = s.taken;
      lines = s.lines;
      counts = s.counts;
      columns = s.columns;
      held_len = 0;
    }

-- number, lengths, counts, output and places are the reader's
pub record RanText (c : Config) (map text : List ℕ) (r : Ran) (out out' places places' : List ℕ) : Type 0 where
  pub number : r.number ≡ (plain_read c.kind true text).fault
  pub written : r.written ≡ length (output_of (emits_for c.kind c.timescale map text))
  pub warned : r.warned ≡ length (places_of (warnings_of (emits_for c.kind c.timescale map text)))
  pub counts : r.counts ≡ counts_of (emits_for c.kind c.timescale map text)
  pub output : out' ≡ put (output_of (emits_for c.kind c.timescale map text)) out
  pub warnings : places' ≡ put (places_of (warnings_of (emits_for c.kind c.timescale map text))) places

-- seven numbers
abbrev pub tells_of : Ran → (taken : ℕ) → List ℕ
tells_of r n = r.written ∷ r.warned ∷ r.counts.shifted ∷ r.counts.clipped ∷ r.counts.dropped ∷ r.counts.passed ∷ n ∷ []
