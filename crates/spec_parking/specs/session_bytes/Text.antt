-- For the private functions of `feed`: the held bytes with the piece behind them as one text, and the bytes afterwards.
use Rattle.std.specs.Prelude.{◌≡◌, Bool, ◌||◌, cond, List, [], ◌++◌, ℕ, eqb, leb, take}
use Rattle.spec_base.specs.base.Limits.{most_piece, most_held}
use Rattle.spec_base.specs.base.Refusal.{◌or_else◌, fault_unless}
use Rattle.spec_sheet.specs.checked_blocks.Block.{word_at}
use Rattle.spec_session.specs.declared.session_state.Head.{Head}
use Rattle.spec_parked_blocks.specs.parked_blocks.Sealed.{room_of}
use Rattle.spec_parking.specs.parking.Parked.{is_parked}
use Rattle.spec_parking.specs.parking.Head.{head_in, restored}
use Rattle.spec_parking.specs.session_bytes.ByteCalls.{refuses}
use Rattle.spec_parking.specs.declared.session_bytes.TextIn.{TextIn}

-- 27, then 17 where more bytes are held than a session has room for
unfoldable pub feed_number : (bytes : List ℕ) → ℕ
feed_number b = fault_unless (is_parked b) 27 or_else fault_unless (leb (word_at b 16) most_held) 17

-- the held bytes, then the piece: no more of it than a call may have
unfoldable pub feed_text : (bytes piece : List ℕ) → List ℕ
feed_text b piece = take (word_at b 16) (room_of b) ++ take most_piece piece

-- refused, the text is empty
pub record TakesText (b piece : List ℕ) (r : TextIn) (room' : List ℕ) : Type 0 where
  pub number : r.number ≡ feed_number b
  pub head : r.head ≡ head_in b
  pub text : take r.length room' ≡ cond (eqb r.number 0) (feed_text b piece) []

-- the bytes where a feed that answered k led to these numbers and held bytes; they stay where nothing was fed
unfoldable pub kept_text : (number : ℕ) → (nothing : Bool) → Head → (held : List ℕ) → (old : ℕ) → (bytes : List ℕ) → List ℕ
kept_text k i h held old b = cond (refuses k || i) b (restored h held old b)
