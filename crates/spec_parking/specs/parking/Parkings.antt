-- The answers of `park` and `take_up`, and what is promised of one after the other.
use Rattle.std.specs.Prelude.{◌≡◌, ◌⊎◌, false, not, cond, List, [], ℕ, ◌<◌, eqb, leb, length, get_or}
use Rattle.spec_base.specs.base.Refusal.{◌or_else◌, fault_unless}
use Rattle.spec_base.specs.base.Put.{put}
use Rattle.spec_sheet.specs.checked_blocks.Block.{word_at}
use Rattle.spec_machine.specs.session_counts.Session.{no_session}
use Rattle.spec_machine.specs.kinds.Kit.{kit}
use Rattle.spec_session.specs.declared.session_state.Session.{Session}
use Rattle.spec_session.specs.session_state.View.{stored, foreign_of}
use Rattle.spec_parked_blocks.specs.parked_blocks.Sealed.{sealed_length}
use Rattle.spec_parking.specs.declared.parking.TakenUp.{TakenUp}
use Rattle.spec_parking.specs.parking.Parked.{parked_of, is_parked, session_in, remembered}

-- park: 17, then 16 where fewer than 9,216 bytes are lent
unfoldable pub park_number : Session → (lent : ℕ) → ℕ
park_number s lent = fault_unless (not (foreign_of s)) 17 or_else fault_unless (leb sealed_length lent) 16

abbrev pub when_done : ℕ → List ℕ → List ℕ
when_done k v = cond (eqb k 0) v []

-- we write mark 2
pub record Parks (s : Session) (number : ℕ) (out out' : List ℕ) : Type 0 where
  pub answer : number ≡ park_number s (length out)
  pub bytes : out' ≡ put (when_done number (parked_of 2 s)) out

-- the same of any session, where 17 is not asked: 16, or the 18 blocks. A foreign one is told by 17 (or 27) when it is taken up
abbrev pub keep_number : (lent : ℕ) → ℕ
keep_number lent = fault_unless (leb sealed_length lent) 16

pub record Stores (s : Session) (number : ℕ) (out out' : List ℕ) : Type 0 where
  pub answer : number ≡ keep_number (length out)
  pub bytes : out' ≡ put (when_done number (parked_of 2 s)) out

-- take up: 27, then 17; refused, what a refused open returns
unfoldable pub take_number : List ℕ → ℕ
take_number b = fault_unless (is_parked b) 27 or_else fault_unless (not (foreign_of (session_in b))) 17

pub record TakesUp (b : List ℕ) (r : TakenUp) : Type 0 where
  pub number : r.number ≡ take_number b
  pub session : r.session ≡ cond (eqb r.number 0) (session_in b) (stored (no_session kit))

-- ---- a session that is not foreign, parked under either mark, is taken up with equal counts, held bytes and places; an ended one with equal counts and outcome
abbrev pub Mark : ℕ → Type 0
Mark k = (k ≡ 1) ⊎ (k ≡ 2)

pub record Kept (b : List ℕ) (s : Session) : Type 0 where
  pub answer : take_number b ≡ 0
  pub same : session_in b ≡ remembered s

abbrev pub ParkedAgain : Type 0
ParkedAgain = (k : ℕ) (s : Session) → Mark k → foreign_of s ≡ false → Kept (parked_of k s) s

-- ---- and nothing else is taken up: bytes that are taken up are those that are stored of the session that they name, under their own mark
abbrev pub OnlyParked : Type 0
OnlyParked = (b : List ℕ) → take_number b ≡ 0 → ((j : ℕ) → get_or b j 0 < 256) → b ≡ parked_of (word_at b 1) (session_in b)
