-- The numbers of `park` and `take_up` in their order, where the room stands in the blocks, which of its bytes and which words are unused, and the session that words name: by computation.
use mathlib.Core.Path.{◌≡◌, refl}
use mathlib.Core.Bool.{Bool, true, false}
use mathlib.Core.List.{List, [], ◌∷◌, ◌++◌}
use Prim.Native.Nat.{ℕ}
use lib.ListN.{replicate}
use Rattle.spec_base.specs.base.Refusal.{◌or_else◌, fault_unless}
use Rattle.spec_sheet.specs.checked_blocks.Block.{word_at}
use Rattle.spec_time.specs.caption_time.Kind.{kind_bad}
use Rattle.spec_time.specs.caption_time.Convert.{timescale_bad}
use Rattle.spec_machine.specs.session_counts.Session.{is_outcome, outcome_bad}
use Rattle.spec_machine.specs.kinds.Kit.{held_bad, columns_bad}
use Rattle.spec_session.specs.declared.session_state.Session.{Session}
use Rattle.spec_session.specs.session_state.View.{held_of, foreign_of}
use Rattle.spec_parked_blocks.specs.parked_blocks.Sealed.{word_bytes, words_bytes, is_row, bodies, all_zero}
use Rattle.spec_parking.specs.parking.Parked.{unused_zero, is_parked, session_in}
use Rattle.spec_parking.specs.parking.Parkings.{park_number, take_number, when_done}

-- a session of this kind that has just been opened
abbrev opened : (kind : ℕ) → Session
opened kind =
    record {
      config = record { kind = kind; timescale = 1000 };
      ended = false;
      outcome = 0;
      taken = 0;
      lines = 0;
      counts = record { shifted = 0; clipped = 0; dropped = 0; passed = 0 };
      columns = record { events = false; columns = 0; start = 0; «end» = 0 };
      held_len = 0;
      held = [];
    }

-- 17 before 16; 9,216 bytes are enough
pub park_rows : park_number (opened 3) 9215 ∷ park_number (opened 2) 9215 ∷ park_number (opened 2) 9216 ∷ [] ≡ 17 ∷ 16 ∷ 0 ∷ []
unfolding park_number ◌or_else◌ fault_unless foreign_of held_of kind_bad timescale_bad is_outcome outcome_bad held_bad columns_bad
park_rows = refl

-- no bytes name a session of T 0, which would be 17: 27 comes first
pub take_row : take_number [] ≡ 27
unfolding take_number is_parked is_row ◌or_else◌ fault_unless
take_row = refl

pub refused_rows : (when_done 0 (7 ∷ []) ≡ 7 ∷ []) × (when_done 16 (7 ∷ []) ≡ [])
refused_rows = (refl, refl)

-- the room begins with the fifth byte of block 1, and passes over the sum of block 1 and the number of block 2
pub room_rows : (bodies (replicate 515 0 ++ 7 ∷ 8 ∷ []) 1 17 ≡ 8 ∷ []) × (bodies (replicate 1019 0 ++ 7 ∷ 8 ∷ replicate 7 0 ++ 9 ∷ []) 1 17 ≡ replicate 503 0 ++ 7 ∷ 9 ∷ [])
unfolding bodies
room_rows = (refl, refl)

-- going on: the first byte of the room with a held length of 0, with one of 1, and the second byte with one of 1
pub live_unused :
    unused_zero (replicate 516 0 ++ 1 ∷ [])
    ∷ unused_zero (replicate 64 0 ++ 1 ∷ replicate 451 0 ++ 1 ∷ [])
    ∷ unused_zero (replicate 64 0 ++ 1 ∷ replicate 451 0 ++ 1 ∷ 1 ∷ [])
    ∷ []
    ≡ false ∷ true ∷ false ∷ []
unfolding unused_zero all_zero word_at bodies
live_unused = refl

-- once ended: nothing else; then one byte in word 7, 11, 12, 16 and in the room
pub ended_unused :
    unused_zero (replicate 16 0 ++ 1 ∷ [])
    ∷ unused_zero (replicate 16 0 ++ 1 ∷ replicate 11 0 ++ 1 ∷ [])
    ∷ unused_zero (replicate 16 0 ++ 1 ∷ replicate 27 0 ++ 1 ∷ [])
    ∷ unused_zero (replicate 16 0 ++ 1 ∷ replicate 31 0 ++ 1 ∷ [])
    ∷ unused_zero (replicate 16 0 ++ 1 ∷ replicate 47 0 ++ 1 ∷ [])
    ∷ unused_zero (replicate 16 0 ++ 1 ∷ replicate 499 0 ++ 1 ∷ [])
    ∷ []
    ≡ true ∷ false ∷ true ∷ false ∷ false ∷ false ∷ []
unfolding unused_zero all_zero word_at bodies
ended_unused = refl

-- block 0 of these words behind its number, each with a value of its own
abbrev named : Session
named = session_in (0 ∷ 0 ∷ 0 ∷ 0 ∷ words_bytes (2 ∷ 1 ∷ 30000 ∷ 1 ∷ 22 ∷ 5000 ∷ 40 ∷ 11 ∷ 12 ∷ 13 ∷ 14 ∷ 1 ∷ 9 ∷ 6 ∷ 8 ∷ 5 ∷ []))

pub named_rows : (named.config ≡ record { kind = 1; timescale = 30000 })
    × (named.ended ≡ true)
    × (named.outcome ∷ named.taken ∷ named.lines ∷ named.held_len ∷ [] ≡ 22 ∷ 5000 ∷ 40 ∷ 5 ∷ [])
    × (named.counts ≡ record { shifted = 11; clipped = 12; dropped = 13; passed = 14 })
    × (named.columns ≡ record { events = true; columns = 9; start = 6; «end» = 8 })
unfolding session_in words_bytes word_bytes word_at
named_rows = (refl, refl, refl, refl, refl)
