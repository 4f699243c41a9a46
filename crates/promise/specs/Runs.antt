-- Lists of feeds and finishes as a caller makes them, each given the session that the last call returned.
use Rattle.std.specs.Prelude.{◌≡◌, ℕ, length, take}
use mathlib.Core.List.{List, [], ◌∷◌, ◌++◌, map, foldl}
use Rattle.spec_caption.specs.caption_fate.Emit.{Warning, warning}
use Rattle.spec_ass.specs.declared.ass_columns.Columns.{Columns}
use Rattle.spec_machine.specs.session_counts.Session.{Call, lent_of}
use Rattle.spec_machine.specs.session_counts.Calls.{Played}
use Rattle.spec_session.specs.declared.session_state.Session.{Session}
use Rattle.spec_session.specs.session_state.View.{view}
use Rattle.spec_session.specs.declared.session.Fed.{Fed}
use Rattle.spec_session.specs.session.SessionCalls.{feed_call, finish_call, Answered}

-- a call that was made: its arguments but the session (the map, the piece, the lengths lent), the output and the places as they were lent, what
-- came back, and what stood in both afterwards
pub record Made : Type 0 where
  pub call : Call
  pub out : List ℕ
  pub places : List ℕ
  pub result : Fed
  pub out' : List ℕ
  pub places' : List ℕ

abbrev pub calls_of : List Made → List Call
calls_of cs = map (λ c. c.call) cs

-- the lengths lent are those of the output and of the places
abbrev pub Lends : Made → Type 0
Lends c = ((lent_of c.call).out_length ≡ length c.out) × ((lent_of c.call).place_count ≡ length c.places)

-- the contract of feed or finish holds of a call that was given the session s
abbrev pub Met : Session → Made → Type 0
Met s c = Lends c × Answered s c.call c.result c.out c.out' c.places c.places'

-- a run: each call met its contract and was given the session that the last one returned
abbrev pub Ran : Session → List Made → Type 0
Ran s [] = Unit {0}
Ran s (c ∷ cs) = Met s c × Ran c.result.session cs

-- ---- what a call wrote: as many bytes and places as it reported
-- two places are a warning
abbrev pub warnings_in : List ℕ → List Warning
warnings_in [] = []
warnings_in (k ∷ []) = []
warnings_in (k ∷ n ∷ ps) = warning k n ∷ warnings_in ps

abbrev pub written_by : Made → List ℕ
written_by c = take c.result.written c.out'

abbrev pub warned_by : Made → List Warning
warned_by c = warnings_in (take c.result.warned c.places')

-- the session that the last call returned
abbrev pub last_of : Session → List Made → Session
last_of s cs = foldl (λ t c. c.result.session) s cs

-- ---- for `Demand`: the numbers in order, the last session as the model has it, and what the calls wrote, joined in their order
abbrev pub outcome : Session → List Made → Played Columns
outcome s [] = record { numbers = []; session = view s; output = []; warnings = [] }
outcome s (c ∷ cs) =
    record {
      numbers = c.result.number ∷ (outcome c.result.session cs).numbers;
      session = (outcome c.result.session cs).session;
      output = written_by c ++ (outcome c.result.session cs).output;
      warnings = warned_by c ++ (outcome c.result.session cs).warnings;
    }

-- ---- a feed and a finish that were made
abbrev pub fed : (map piece out places : List ℕ) → Fed → (out' places' : List ℕ) → Made
fed map piece out places r out' places' =
    record { call = feed_call map piece (length out) (length places); out = out; places = places; result = r; out' = out'; places' = places' }

abbrev pub finished : (map out places : List ℕ) → Fed → (out' places' : List ℕ) → Made
finished map out places r out' places' =
    record { call = finish_call map (length out) (length places); out = out; places = places; result = r; out' = out'; places' = places' }
