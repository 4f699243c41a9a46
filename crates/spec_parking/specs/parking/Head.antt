-- A session taken in by its numbers, its bytes copied to lent room, and stored in the place of one that held fewer bytes or more.
use Rattle.std.specs.Prelude.{◌≡◌, cond, List, [], ℕ, max, leb, length}
use Rattle.spec_base.specs.base.Refusal.{◌or_else◌, fault_unless}
use Rattle.spec_base.specs.base.Put.{put}
use Rattle.spec_sheet.specs.checked_blocks.Block.{word_at}
use Rattle.spec_session.specs.declared.session_state.Session.{Session}
use Rattle.spec_session.specs.declared.session_state.Head.{Head}
use Rattle.spec_parked_blocks.specs.parked_blocks.Sealed.{room_length, words_bytes}
use Rattle.spec_parked_blocks.specs.parked_blocks.First.{first_in, first_room, unsealed_first}
use Rattle.spec_parking.specs.declared.parking.TakenIn.{TakenIn}
use Rattle.spec_parking.specs.parking.Parked.{head_words, is_parked, session_in}

-- the numbers of a session, and the session of these numbers without a room
abbrev pub head_numbers : Session → Head
head_numbers s =
    record {
      config = s.config;
      ended = s.ended;
      outcome = s.outcome;
      taken = s.taken;
      lines = s.lines;
      counts = s.counts;
      columns = s.columns;
      held_len = s.held_len;
    }

abbrev pub bare_of : Head → Session
bare_of h =
    record {
      config = h.config;
      ended = h.ended;
      outcome = h.outcome;
      taken = h.taken;
      lines = h.lines;
      counts = h.counts;
      columns = h.columns;
      held_len = h.held_len;
      held = [];
    }

-- ---- taken in
-- the numbers of the session that the blocks name
unfoldable pub head_in : List ℕ → Head
head_in b = head_numbers (session_in b)

-- 16 where fewer than 8,568 bytes of room are lent, then 27. 17 is not asked
unfoldable pub in_number : List ℕ → (lent : ℕ) → ℕ
in_number b lent = fault_unless (leb room_length lent) 16 or_else fault_unless (is_parked b) 27

-- what is copied: the bytes of the blocks that the held bytes take
unfoldable pub copied_in : List ℕ → (lent : ℕ) → List ℕ
copied_in b lent = cond (unsealed_first b (word_at b 16) lent) (first_room (word_at b 16) b) []

pub record TakesIn (b : List ℕ) (r : TakenIn) (room room' : List ℕ) : Type 0 where
  pub number : r.number ≡ in_number b (length room)
  pub head : r.head ≡ head_in b
  pub bytes : room' ≡ put (copied_in b (length room)) room

-- ---- stored
-- words 1 to 16 with mark 2, as bytes
abbrev pub head_bytes : Head → List ℕ
head_bytes h = words_bytes (head_words 2 (bare_of h))

-- the session of these numbers and held bytes over the bytes of one that held so many before: only blocks that had bytes or have some now are written
unfoldable pub restored : Head → (held : List ℕ) → (old : ℕ) → (bytes : List ℕ) → List ℕ
restored h held old b = put (first_in (length b) (max (length held) old) (head_bytes h) held) b
