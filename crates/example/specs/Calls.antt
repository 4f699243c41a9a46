-- A list of calls made from a session: each result is what the call's contract says, given the session that the last call returned.
use Rattle.std.specs.Prelude.{List, [], ◌∷◌, ℕ, length}
use Rattle.spec_base.specs.base.Put.{put}
use Rattle.spec_caption.specs.caption_fate.Emit.{output_of, warnings_of, places_of}
use Rattle.spec_machine.specs.session_counts.Session.{Call}
use Rattle.spec_session.specs.declared.session_state.Session.{Session}
use Rattle.spec_session.specs.declared.session.Fed.{Fed}
use Rattle.spec_session.specs.session.SessionCalls.{feed_call, finish_call, answer_of, next_of}
use Rattle.promise.specs.Runs.{Made, fed, finished}

-- what a caller lends: the map, the piece, the output and the places
pub data Asked : Type 0 where
  feeding : (map piece out places : List ℕ) → Asked
  finishing : (map out places : List ℕ) → Asked

abbrev pub asked_call : Asked → Call
asked_call (feeding m piece out places) = feed_call m piece (length out) (length places)
asked_call (finishing m out places) = finish_call m (length out) (length places)

-- number, both lengths and session
abbrev pub result_by : Session → Call → Fed
result_by s x =
    record {
      number = (answer_of s x).number;
      written = length (output_of (answer_of s x).emits);
      warned = length (places_of (warnings_of (answer_of s x).emits));
      session = next_of s x;
    }

-- what stands in the output and in the places afterwards
abbrev pub out_by : Session → Call → List ℕ → List ℕ
out_by s x out = put (output_of (answer_of s x).emits) out

abbrev pub places_by : Session → Call → List ℕ → List ℕ
places_by s x places = put (places_of (warnings_of (answer_of s x).emits)) places

abbrev pub made_by : Session → Asked → Made
made_by s (feeding m piece out places) =
    let x = feed_call m piece (length out) (length places) in
    fed m piece out places (result_by s x) (out_by s x out) (places_by s x places)
made_by s (finishing m out places) =
    let x = finish_call m (length out) (length places) in
    finished m out places (result_by s x) (out_by s x out) (places_by s x places)

abbrev pub makes : Session → List Asked → List Made
makes s [] = []
makes s (a ∷ later) = made_by s a ∷ makes (next_of s (asked_call a)) later
