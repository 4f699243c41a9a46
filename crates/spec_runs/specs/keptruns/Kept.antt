-- Calls of `retimer_feed` and `retimer_finish` as a caller makes them, each given the bytes that the last one left.
use Rattle.std.specs.Prelude.{◌≡◌, cond, List, [], ◌∷◌, ◌++◌, ℕ, length, take}
use Rattle.spec_base.specs.base.Put.{put}
use Rattle.spec_caption.specs.caption_fate.Emit.{Warning}
use Rattle.spec_ass.specs.declared.ass_columns.Columns.{Columns}
use Rattle.spec_machine.specs.session_counts.Session.{Call}
use Rattle.spec_machine.specs.session_counts.Calls.{Played}
use Rattle.spec_session.specs.session_state.View.{view}
use Rattle.spec_session.specs.session.SessionCalls.{feed_call, finish_call}
use Rattle.spec_parking.specs.parking.Parked.{session_in}
use Rattle.promise.specs.Runs.{warnings_in}
use Rattle.spec_parking.specs.session_bytes.ByteCalls.{refuses, call_number, bytes_after, text_out, places_in, told_in}

-- what a call left: its number, and what stood afterwards in the session's bytes, the output, the places and the two told numbers
pub record Left : Type 0 where
  pub number : ℕ
  pub bytes : List ℕ
  pub out : List ℕ
  pub places : List ℕ
  pub written : ℕ
  pub warned : ℕ

-- a call that was made: the map and the piece, the output, the places and the two told numbers as they were lent, and what it left
pub data KeptCall : Type 0 where
  fed : (map piece out places : List ℕ) → (written warned : ℕ) → Left → KeptCall
  finished : (map out places : List ℕ) → (written warned : ℕ) → Left → KeptCall

abbrev pub left_by : KeptCall → Left
left_by (fed map piece out places w v a) = a
left_by (finished map out places w v a) = a

abbrev pub kept_call_of : KeptCall → Call
kept_call_of (fed map piece out places w v a) = feed_call map piece (length out) (length places)
kept_call_of (finished map out places w v a) = finish_call map (length out) (length places)

abbrev pub kept_calls : List KeptCall → List Call
kept_calls [] = []
kept_calls (x ∷ xs) = kept_call_of x ∷ kept_calls xs

-- the clauses that both functions ensure, of a call that was given the bytes b
pub record Leaves (b : List ℕ) (x : Call) (out places : List ℕ) (written warned : ℕ) (a : Left) : Type 0 where
  pub number : a.number ≡ call_number b x
  pub bytes : a.bytes ≡ bytes_after b x
  pub text : a.out ≡ put (text_out b x) out
  pub warnings : a.places ≡ put (places_in b x) places
  pub told_written : a.written ≡ told_in a.number (length (text_out b x)) written
  pub told_warned : a.warned ≡ told_in a.number (length (places_in b x)) warned

abbrev pub KeptMet : List ℕ → KeptCall → Type 0
KeptMet b (fed map piece out places w v a) = Leaves b (feed_call map piece (length out) (length places)) out places w v a
KeptMet b (finished map out places w v a) = Leaves b (finish_call map (length out) (length places)) out places w v a

-- each call met its contract and was given the bytes that the last one left
abbrev pub KeptRan : List ℕ → List KeptCall → Type 0
KeptRan b [] = Unit {0}
KeptRan b (x ∷ xs) = KeptMet b x × KeptRan (left_by x).bytes xs

-- what a caller takes from the output and the places: nothing of a refused call, else as much as was told
abbrev pub text_left : Left → List ℕ
text_left a = cond (refuses a.number) [] (take a.written a.out)

abbrev pub warnings_left : Left → List Warning
warnings_left a = warnings_in (cond (refuses a.number) [] (take a.warned a.places))

-- the numbers in order, the session that the last bytes name, and what the calls wrote, joined in their order
abbrev pub kept_outcome : List ℕ → List KeptCall → Played Columns
kept_outcome b [] = record { numbers = []; session = view (session_in b); output = []; warnings = [] }
kept_outcome b (x ∷ xs) =
    record {
      numbers = (left_by x).number ∷ (kept_outcome (left_by x).bytes xs).numbers;
      session = (kept_outcome (left_by x).bytes xs).session;
      output = text_left (left_by x) ++ (kept_outcome (left_by x).bytes xs).output;
      warnings = warnings_left (left_by x) ++ (kept_outcome (left_by x).bytes xs).warnings;
    }
