-- The session that a call returns: refused, the one it was given; after a fault, ended, with the piece taken whole; after a finish, ended with 0. By computation.
use mathlib.Core.Path.{◌≡◌, refl}
use mathlib.Core.Bool.{Bool, true, false}
use mathlib.Core.List.{List, [], ◌∷◌}
use Prim.Native.Nat.{ℕ}
use lib.ListN.{replicate}
use Rattle.spec_text.specs.utf8.Utf8.{lead_len, second_low, second_high, tail, width_by, char_width, utf8_from, utf8}
use Rattle.spec_text.specs.pattern.Find.{starts, equals}
use Rattle.spec_time.specs.caption_time.Kind.{kind_bad}
use Rattle.spec_time.specs.caption_time.Convert.{timescale_bad}
use Rattle.spec_map.specs.segment.Segment.{any_bad, segments_of, map_bad}
use Rattle.spec_caption.specs.caption_fate.Emit.{emits_of}
use Rattle.spec_cue.specs.block_timing.Header.{header_due}
use Rattle.spec_session.specs.declared.session_state.Session.{Session}
use Rattle.spec_machine.specs.session_counts.Counts.{count_all}
use Rattle.spec_machine.specs.session_counts.Machine.{has_bom}
use Rattle.spec_machine.specs.session_counts.Session.{is_outcome, outcome_bad}
use Rattle.spec_machine.specs.kinds.Takes.{takes, block_takes, ends, block_ends}
use Rattle.spec_machine.specs.kinds.Kit.{held_bad, columns_bad}
use Rattle.spec_session.specs.session_state.View.{held_of, foreign_of, stored, padded}
use Rattle.spec_session.specs.session.SessionCalls.{feed_call, finish_call, answer_of, session_gate, next_of}
use Rattle.promise.specs.Foreign.{counted, session}

-- an SRT session of T 1000 that has taken so many bytes and holds nothing
abbrev after : (ended : Bool) → (outcome taken : ℕ) → (held : List ℕ) → Session
after e k t h = session 1 1000 e k t 0 (counted 0 0 0 0) (record { events = false; columns = 0; start = 0; «end» = 0 }) h

-- ---- refused: 18, 15, 16
pub refused_rows : (next_of (after true 20 9 []) (feed_call [] (97 ∷ []) 32768 4096) ≡ after true 20 9 [])
    × (next_of (after false 0 9 []) (feed_call (0 ∷ []) (97 ∷ []) 32768 4096) ≡ after false 0 9 [])
    × (next_of (after false 0 9 []) (finish_call [] 32767 4096) ≡ after false 0 9 [])
unfolding next_of session_gate answer_of foreign_of held_of kind_bad timescale_bad is_outcome outcome_bad held_bad columns_bad any_bad segments_of map_bad
refused_rows = (refl, refl, refl)

-- ended with this outcome, so many bytes taken, and nothing held
abbrev over : (outcome taken : ℕ) → Session
over k t =
    record {
      config = record { kind = 1; timescale = 1000 };
      ended = true;
      outcome = k;
      taken = t;
      lines = 0;
      counts = counted 0 0 0 0;
      columns = record { events = false; columns = 0; start = 0; «end» = 0 };
      held_len = 0;
      held = replicate 8192 0;
    }

-- ---- a line that is not UTF-8, and a byte behind it: three bytes are taken
pub fault_rows : ((answer_of (after false 0 9 []) (feed_call [] (255 ∷ 10 ∷ 97 ∷ []) 32768 4096)).number ≡ 20)
    × (next_of (after false 0 9 []) (feed_call [] (255 ∷ 10 ∷ 97 ∷ []) 32768 4096) ≡ over 20 12)
unfolding next_of session_gate answer_of foreign_of held_of stored padded kind_bad timescale_bad is_outcome outcome_bad held_bad columns_bad any_bad segments_of map_bad takes block_takes header_due has_bom starts utf8 utf8_from char_width width_by lead_len second_low second_high tail emits_of count_all
fault_rows = (refl, refl)

-- ---- a finish of nothing held
pub finish_rows : ((answer_of (after false 0 9 []) (finish_call [] 32768 4096)).number ≡ 0) × (next_of (after false 0 9 []) (finish_call [] 32768 4096) ≡ over 0 9)
unfolding next_of session_gate answer_of foreign_of held_of stored padded kind_bad timescale_bad is_outcome outcome_bad held_bad columns_bad any_bad segments_of map_bad ends block_ends header_due emits_of count_all equals
finish_rows = (refl, refl)
