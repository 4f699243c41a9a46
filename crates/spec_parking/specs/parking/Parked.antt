-- A session as 18 blocks (document 02, 2.10): words 1 to 16 of block 0 as below, the held bytes in blocks 1 to 17, 504 to a block, and zeros in the rest.
use Rattle.std.specs.Prelude.{Bool, true, false, ◌&&◌, ◌||◌, cond, List, [], ◌∷◌, ℕ, eqb, take, drop}
use Rattle.spec_base.specs.base.Limits.{most_held}
use Rattle.spec_sheet.specs.checked_blocks.Block.{word_at}
use Rattle.spec_machine.specs.session_counts.Session.{is_outcome}
use Rattle.spec_session.specs.declared.session_state.Session.{Session}
use Rattle.spec_session.specs.session_state.View.{held_of}
use Rattle.spec_parked_blocks.specs.parked_blocks.Sealed.{words_bytes, filled, row_of, is_row, room_of, all_zero}

abbrev pub flag : Bool → ℕ
flag true = 1
flag false = 0

-- ---- what is stored
-- words 1 to 16: mark, kind, T, ended, outcome, taken, lines ended, shifted, clipped, dropped, passed, in Events, columns, places of Start and End, held length.
-- Once ended, words 7 and 12 to 16 are unused
unfoldable pub head_words : (mark : ℕ) → Session → List ℕ
head_words k s =
    k ∷ s.config.kind ∷ s.config.timescale ∷ flag s.ended ∷ s.outcome ∷ s.taken ∷ cond s.ended 0 s.lines ∷
    s.counts.shifted ∷ s.counts.clipped ∷ s.counts.dropped ∷ s.counts.passed ∷
    cond s.ended 0 (flag s.columns.events) ∷ cond s.ended 0 s.columns.columns ∷ cond s.ended 0 s.columns.start ∷
    cond s.ended 0 s.columns.«end» ∷ cond s.ended 0 s.held_len ∷ []

-- the bytes that it holds: none once ended
unfoldable pub kept_bytes : Session → List ℕ
kept_bytes s = cond s.ended [] (held_of s.held_len s.held)

-- the 18 blocks: the words in block 0, the held bytes in blocks 1 to 17
unfoldable pub parked_of : (mark : ℕ) → Session → List ℕ
parked_of k s = row_of (words_bytes (head_words k s)) (kept_bytes s)

-- ---- what 18 blocks say
abbrev pub is_mark : ℕ → Bool
is_mark k = eqb k 1 || eqb k 2

abbrev pub is_flag : ℕ → Bool
is_flag k = eqb k 0 || eqb k 1

-- no unused byte is other than zero: words 17 to 126, and the room behind the held bytes; once ended words 7 and 12 to 16 and the whole room
unfoldable pub unused_zero : List ℕ → Bool
unused_zero s =
    all_zero (take 440 (drop 68 s)) &&
    cond (eqb (word_at s 4) 0)
    (all_zero (drop (word_at s 16) (room_of s)))
    (eqb (word_at s 7) 0 && (all_zero (take 20 (drop 48 s)) && all_zero (room_of s)))

-- 27 where it does not hold: length, numbers and sums, mark, ended, outcome, Events, unused bytes
unfoldable pub is_parked : List ℕ → Bool
is_parked s =
    is_row s && (is_mark (word_at s 1) && (is_flag (word_at s 4) && (is_outcome (word_at s 5) && (is_flag (word_at s 12) && unused_zero s))))

-- the session that the words and bytes name
unfoldable pub session_in : List ℕ → Session
session_in s =
    record {
      config = record { kind = word_at s 2; timescale = word_at s 3 };
      ended = eqb (word_at s 4) 1;
      outcome = word_at s 5;
      taken = word_at s 6;
      lines = word_at s 7;
      counts = record { shifted = word_at s 8; clipped = word_at s 9; dropped = word_at s 10; passed = word_at s 11 };
      columns = record { events = eqb (word_at s 12) 1; columns = word_at s 13; start = word_at s 14; «end» = word_at s 15 };
      held_len = word_at s 16;
      held = take most_held (room_of s);
    }

-- ---- what is taken up of a session
-- ended, nothing but kind, T, outcome, taken and counts; else all of it, with zeros behind the held bytes
unfoldable pub remembered : Session → Session
remembered s =
    record {
      config = s.config;
      ended = s.ended;
      outcome = s.outcome;
      taken = s.taken;
      lines = cond s.ended 0 s.lines;
      counts = s.counts;
      columns = record {
        events = cond s.ended false s.columns.events;
        columns = cond s.ended 0 s.columns.columns;
        start = cond s.ended 0 s.columns.start;
        «end» = cond s.ended 0 s.columns.«end»;
      };
      held_len = cond s.ended 0 s.held_len;
      held = filled most_held (kept_bytes s);
    }
