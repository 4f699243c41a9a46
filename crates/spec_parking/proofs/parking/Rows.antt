-- Words worked by hand, each with a value of its own, as they are stored and as they are read, what is no mark, no flag and no outcome, and the first and the last unused word of block 0: by computation.
use mathlib.Core.Path.{◌≡◌, refl}
use mathlib.Core.Bool.{Bool, true, false}
use mathlib.Core.List.{[], ◌∷◌, ◌++◌}
use lib.ListN.{replicate}
use Rattle.spec_sheet.specs.checked_blocks.Block.{word_at, block_holds}
use Rattle.spec_machine.specs.session_counts.Session.{is_outcome}
use Rattle.spec_session.specs.declared.session_state.Session.{Session}
use Rattle.spec_parked_blocks.specs.parked_blocks.Sealed.{word_bytes, words_bytes, bodies, all_zero, all_hold, is_row}
use Rattle.spec_parked_blocks.specs.parked_blocks.First.{first_in}
use Rattle.spec_base.specs.base.Put.{put}
use Rattle.spec_base.specs.base.Refusal.{◌or_else◌, fault_unless}
use Rattle.spec_parking.specs.parking.Parked.{head_words, is_mark, is_flag, unused_zero, is_parked, session_in}
use Rattle.spec_parking.specs.parking.Head.{head_in, in_number, restored}

worked : (ended : Bool) → Session
worked e =
    record {
      config = record { kind = 7; timescale = 30000 };
      ended = e;
      outcome = 22;
      taken = 5000;
      lines = 40;
      counts = record { shifted = 11; clipped = 12; dropped = 13; passed = 14 };
      columns = record { events = true; columns = 9; start = 6; «end» = 8 };
      held_len = 5;
      held = [];
    }

live_words : head_words 2 (worked false) ≡ 2 ∷ 7 ∷ 30000 ∷ 0 ∷ 22 ∷ 5000 ∷ 40 ∷ 11 ∷ 12 ∷ 13 ∷ 14 ∷ 1 ∷ 9 ∷ 6 ∷ 8 ∷ 5 ∷ []
unfolding worked head_words
live_words = refl

ended_words : head_words 2 (worked true) ≡ 2 ∷ 7 ∷ 30000 ∷ 1 ∷ 22 ∷ 5000 ∷ 0 ∷ 11 ∷ 12 ∷ 13 ∷ 14 ∷ 0 ∷ 0 ∷ 0 ∷ 0 ∷ 0 ∷ []
unfolding worked head_words
ended_words = refl

marks : is_mark 0 ∷ is_mark 1 ∷ is_mark 2 ∷ is_mark 3 ∷ is_mark 4294967295 ∷ [] ≡ false ∷ true ∷ true ∷ false ∷ false ∷ []
marks = refl

flags : is_flag 0 ∷ is_flag 1 ∷ is_flag 2 ∷ [] ≡ true ∷ true ∷ false ∷ []
flags = refl

outcomes : is_outcome 0 ∷ is_outcome 18 ∷ is_outcome 19 ∷ is_outcome 20 ∷ is_outcome 21 ∷ is_outcome 22 ∷ is_outcome 23 ∷ is_outcome 24 ∷ is_outcome 25 ∷ []
    ≡ true ∷ false ∷ true ∷ true ∷ true ∷ true ∷ false ∷ true ∷ false ∷ []
unfolding is_outcome
outcomes = refl

-- block 0 with one byte: words 16 and 127 are used, words 17 and 126 are not
unused :
    unused_zero (replicate 64 0 ++ 1 ∷ [])
    ∷ unused_zero (replicate 68 0 ++ 1 ∷ [])
    ∷ unused_zero (replicate 504 0 ++ 1 ∷ [])
    ∷ unused_zero (replicate 508 0 ++ 1 ∷ [])
    ∷ []
    ≡ true ∷ false ∷ false ∷ true ∷ []
unfolding unused_zero all_zero word_at bodies
unused = refl

-- ---- taken in by its numbers
-- the words of a live session, as block 0 has them
numbers : head_in (words_bytes (0 ∷ 2 ∷ 7 ∷ 30000 ∷ 0 ∷ 22 ∷ 5000 ∷ 40 ∷ 11 ∷ 12 ∷ 13 ∷ 14 ∷ 1 ∷ 9 ∷ 6 ∷ 8 ∷ 5 ∷ [])) ≡ record {
  config = record { kind = 7; timescale = 30000 };
  ended = false;
  outcome = 22;
  taken = 5000;
  lines = 40;
  counts = record { shifted = 11; clipped = 12; dropped = 13; passed = 14 };
  columns = record { events = true; columns = 9; start = 6; «end» = 8 };
  held_len = 5;
}
unfolding head_in session_in words_bytes word_bytes word_at bodies
numbers = refl

-- 16 before 27
refusals : in_number [] 8567 ∷ in_number [] 8568 ∷ [] ≡ 16 ∷ 27 ∷ []
unfolding in_number is_parked is_row unused_zero is_outcome fault_unless ◌or_else◌ all_hold block_holds bodies all_zero word_at
refusals = refl

-- nothing is stored over fewer than 9,216 bytes
too_short : restored (head_in []) [] 0 (7 ∷ []) ≡ 7 ∷ []
unfolding restored first_in put
too_short = refl
