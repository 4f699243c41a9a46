-- A session that a caller keeps as its 18 blocks (spec_parking/specs/parking/Parked): what open, feed and finish answer, and what stands in the lent bytes, output and places
-- afterwards. A call takes the session up, makes the call of spec_session/specs/session/SessionCalls, and parks what that returned, with mark 2. An empty piece changes nothing: the bytes
-- stay, under either mark.
use Rattle.std.specs.Prelude.{◌≡◌, Bool, false, ◌&&◌, ◌||◌, cond, List, [], ℕ, eqb, leb, length}
use Rattle.spec_base.specs.base.Refusal.{◌or_else◌, fault_unless}
use Rattle.spec_base.specs.base.Put.{put}
use Rattle.spec_caption.specs.caption_fate.Emit.{output_of, warnings_of, places_of}
use Rattle.spec_machine.specs.session_counts.Session.{Call, feed, finish}
use Rattle.spec_session.specs.declared.session_state.Session.{Session}
use Rattle.spec_session.specs.session_state.View.{stored}
use Rattle.spec_session.specs.session.SessionCalls.{feed_call, open_of, answer_of, next_of}
use Rattle.spec_parked_blocks.specs.parked_blocks.Sealed.{sealed_length}
use Rattle.spec_parking.specs.parking.Parked.{parked_of, session_in}
use Rattle.spec_parking.specs.parking.Parkings.{take_number, keep_number, when_done}
use Rattle.spec_parking.specs.declared.session_bytes.Told.{Told}

-- ---- open: its own numbers, then 16 where fewer than 9,216 bytes are lent
unfoldable pub open_number : (kind timescale : ℕ) (map : List ℕ) (lent : ℕ) → ℕ
open_number kind timescale m lent = (open_of kind timescale m).number or_else fault_unless (leb sealed_length lent) 16

-- the lent bytes afterwards: refused, as they were
unfoldable pub open_bytes : (kind timescale : ℕ) (map bytes : List ℕ) → List ℕ
open_bytes kind timescale m b = put (when_done (open_number kind timescale m (length b)) (parked_of 2 (stored (open_of kind timescale m).session))) b

-- ---- feed and finish
-- a call is refused by 15 to 18, and by 27
unfoldable pub refuses : ℕ → Bool
refuses k = (leb 15 k && leb k 18) || eqb k 27

-- the number: 27 and 17 of the bytes, then the call's own
unfoldable pub call_number : (bytes : List ℕ) → Call → ℕ
call_number b x = take_number b or_else (answer_of (session_in b) x).number

-- an empty piece
abbrev pub empty_piece : Call → Bool
empty_piece (feed l piece) = eqb (length piece) 0
empty_piece (finish l) = false

-- the bytes: refused or fed an empty piece, as they were, else the session that the call returned
unfoldable pub bytes_after : (bytes : List ℕ) → Call → List ℕ
bytes_after b x = put (cond (refuses (call_number b x) || empty_piece x) [] (parked_of 2 (next_of (session_in b) x))) b

-- what is written to the output and the places: what the call emits, and nothing where it is refused
unfoldable pub text_out : (bytes : List ℕ) → Call → List ℕ
text_out b x = cond (refuses (call_number b x)) [] (output_of (answer_of (session_in b) x).emits)

unfoldable pub places_in : (bytes : List ℕ) → Call → List ℕ
places_in b x = cond (refuses (call_number b x)) [] (places_of (warnings_of (answer_of (session_in b) x).emits))

-- a length that is told: refused, the place keeps what stood there
unfoldable pub told_in : (number value before : ℕ) → ℕ
told_in k v n = cond (refuses k) n v

-- the number, both lengths, and the bytes, output and places at entry and at exit
pub record Called (x : Call) (r : Told) (b b' out out' places places' : List ℕ) : Type 0 where
  pub number : r.number ≡ call_number b x
  pub written : r.written ≡ length (text_out b x)
  pub warned : r.warned ≡ length (places_in b x)
  pub bytes : b' ≡ bytes_after b x
  pub text : out' ≡ put (text_out b x) out
  pub warnings : places' ≡ put (places_in b x) places

-- document 01: "An empty piece changes nothing." The bytes stay too, whatever stands in them
abbrev pub EmptyStays : Type 0
EmptyStays = (b map : List ℕ) (out places : ℕ) → bytes_after b (feed_call map [] out places) ≡ b

-- ---- for the private functions
-- the bytes where a call that answered k returned the session s; they stay where nothing was fed
unfoldable pub kept_next : (number : ℕ) → (nothing : Bool) → Session → (bytes : List ℕ) → List ℕ
kept_next k i s b = put (cond (refuses k || i) [] (when_done (keep_number (length b)) (parked_of 2 s))) b
