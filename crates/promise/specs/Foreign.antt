-- 17 from both sides, clause by clause in document 01's order, then request 2.10's three; the order of the refusals; and what open returns. In plain numbers.
use Rattle.std.specs.Prelude.{◌≡◌, Bool, true, false, List, [], ◌∷◌, ℕ, length, replicate}
use Rattle.spec_ass.specs.declared.ass_columns.Columns.{Columns}
use Rattle.spec_machine.specs.declared.session_counts.Counts.{Counts}
use Rattle.spec_session.specs.declared.session_state.Session.{Session}
use Rattle.spec_session.specs.session_state.View.{stored, foreign_of}
use Rattle.spec_session.specs.session.SessionCalls.{feed_call, finish_call, answer_of, open_of}

abbrev pub counted : (shifted clipped dropped passed : ℕ) → Counts
counted s k d p = record { shifted = s; clipped = k; dropped = d; passed = p }

-- columns and the places of Start and End, from 1; 0: absent
abbrev pub placed : (columns start stop : ℕ) → Columns
placed n s e = record { events = true; columns = n; start = s; «end» = e }

abbrev pub session : (kind T : ℕ) → (ended : Bool) → (outcome taken lines : ℕ) → Counts → Columns → (held : List ℕ) → Session
session kind T e k t n c p h =
    record {
      config = record { kind = kind; timescale = T };
      ended = e;
      outcome = k;
      taken = t;
      lines = n;
      counts = c;
      columns = p;
      held_len = length h;
      held = h;
    }

-- an SRT session that took 9 bytes in 2 lines, with some of it changed. The bytes it holds are `a`, LF, `b`, LF
abbrev pub two_lines : List ℕ
two_lines = 97 ∷ 10 ∷ 98 ∷ 10 ∷ []

abbrev pub of_kind : (kind T : ℕ) → Session
of_kind kind T = session kind T false 0 9 2 (counted 0 0 0 0) (placed 0 0 0) []

abbrev pub taking : (taken lines : ℕ) → Session
taking t n = session 1 1000 false 0 t n (counted 0 0 0 0) (placed 0 0 0) two_lines

abbrev pub counting : (shifted clipped dropped passed : ℕ) → Session
counting s k d p = session 1 1000 false 0 9 2 (counted s k d p) (placed 0 0 0) two_lines

abbrev pub knowing : (columns start stop : ℕ) → Session
knowing n s e = session 0 1000 false 0 9 2 (counted 0 0 0 0) (placed n s e) []

abbrev pub holding : (kind : ℕ) → (held : List ℕ) → Session
holding kind h = session kind 1000 false 0 9 2 (counted 0 0 0 0) (placed 0 0 0) h

abbrev pub ending : (ended : Bool) → (outcome : ℕ) → Session
ending e k = session 1 1000 e k 9 0 (counted 0 0 0 0) (placed 0 0 0) []

abbrev pub Ours : Session → Type 0
Ours s = foreign_of s ≡ false

abbrev pub Strange : Session → Type 0
Strange s = foreign_of s ≡ true

pub record Foreign : Type 0 where
  pub kinds : Ours (of_kind 0 1000) × Ours (of_kind 1 1000) × Ours (of_kind 2 1000) × Strange (of_kind 3 1000) × Strange (of_kind 4294967295 1000)
  pub timescales : Strange (of_kind 1 0) × Ours (of_kind 1 1) × Ours (of_kind 1 1000000000) × Strange (of_kind 1 1000000001)
  pub takens : Ours (taking 1073741824 2) × Strange (taking 1073741825 2)
  pub counts : Ours (counting 9 9 9 9) × Strange (counting 10 0 0 0) × Strange (counting 0 10 0 0) × Strange (counting 0 0 10 0) × Strange (counting 0 0 0 10)
  pub lines : Ours (taking 9 9) × Strange (taking 9 10)
  -- four bytes held: of four taken, and of three
  pub held : Ours (taking 4 2) × Strange (taking 3 2)
  pub columns : Ours (knowing 4096 4096 4096) × Strange (knowing 4097 0 0)
  -- the last of three columns is place 3 (of 01's places from 0, 2); absent is 0
  pub places : Ours (knowing 3 0 0) × Ours (knowing 3 3 0) × Ours (knowing 3 0 3) × Ours (knowing 3 3 3) × Strange (knowing 3 4 0) × Strange (knowing 3 0 4) × Strange (knowing 0 1 0) × Strange (knowing 0 0 1)
  -- ASS holds no LF
  pub ass : Ours (holding 0 (97 ∷ 255 ∷ [])) × Strange (holding 0 (97 ∷ 10 ∷ [])) × Strange (holding 0 (10 ∷ []))
  -- SRT's finished lines: none is blank (a space is), each is UTF-8; of the unfinished one neither is asked
  pub srt : Ours (holding 1 two_lines) × Ours (holding 1 (97 ∷ 10 ∷ 32 ∷ [])) × Ours (holding 1 (97 ∷ 10 ∷ 255 ∷ [])) × Strange (holding 1 (10 ∷ [])) × Strange (holding 1 (97 ∷ 10 ∷ 32 ∷ 10 ∷ []))
      × Strange (holding 1 (255 ∷ 10 ∷ [])) × Strange (holding 1 (97 ∷ 10 ∷ 255 ∷ 10 ∷ []))
  -- WebVTT's too, but only an empty line is blank
  pub vtt : Ours (holding 2 two_lines) × Ours (holding 2 (32 ∷ 10 ∷ [])) × Ours (holding 2 (13 ∷ 13 ∷ 10 ∷ [])) × Strange (holding 2 (10 ∷ [])) × Strange (holding 2 (13 ∷ 10 ∷ [])) × Strange (holding 2 (255 ∷ 10 ∷ []))
  -- 2.10: the outcome of a session that goes on, of one that ended, and held LFs against lines ended
  pub going_on : Ours (ending false 0) × Strange (ending false 1) × Strange (ending false 19) × Strange (ending false 20) × Strange (ending false 21) × Strange (ending false 22) × Strange (ending false 24)
  pub over : Ours (ending true 0) × Ours (ending true 19) × Ours (ending true 20) × Ours (ending true 21) × Ours (ending true 22) × Ours (ending true 24) × Strange (ending true 1) × Strange (ending true 18) × Strange (ending true 23)
      × Strange (ending true 25)
  pub rows : Ours (taking 9 2) × Strange (taking 9 1) × Strange (taking 9 0)
  -- ---- the order: 17, 18, 15, 16. One number is no map, and no bytes are lent for the output
  pub order_17 : ((answer_of (session 3 0 true 0 9 2 (counted 0 0 0 0) (placed 0 0 0) []) (feed_call (0 ∷ []) [] 0 0)).number ≡ 17)
      × ((answer_of (session 3 0 true 0 9 2 (counted 0 0 0 0) (placed 0 0 0) []) (finish_call (0 ∷ []) 0 0)).number ≡ 17)
  pub order_18 : ((answer_of (ending true 0) (feed_call (0 ∷ []) [] 0 0)).number ≡ 18) × ((answer_of (ending true 0) (finish_call (0 ∷ []) 0 0)).number ≡ 18)
  pub order_15 : ((answer_of (ending false 0) (feed_call (0 ∷ []) [] 0 0)).number ≡ 15) × ((answer_of (ending false 0) (finish_call (0 ∷ []) 0 0)).number ≡ 15)
  pub order_16 : ((answer_of (ending false 0) (feed_call [] [] 0 0)).number ≡ 16) × ((answer_of (ending false 0) (finish_call [] 0 0)).number ≡ 16)
  -- ---- open: 15 for T or the map, then 16 for the kind
  pub opened : ((open_of 3 0 []).number ≡ 15) × ((open_of 3 1 (0 ∷ [])).number ≡ 15) × ((open_of 3 1 []).number ≡ 16) × ((open_of 2 1000000001 []).number ≡ 15) × ((open_of 2 1000000000 []).number ≡ 0) × ((open_of 0 1 []).number ≡ 0)
  -- refused, an ended session of kind 0 and T 1, all else zero
  pub refused : stored (open_of 3 7 []).session ≡ record {
    config = record { kind = 0; timescale = 1 };
    ended = true;
    outcome = 0;
    taken = 0;
    lines = 0;
    counts = counted 0 0 0 0;
    columns = record { events = false; columns = 0; start = 0; «end» = 0 };
    held_len = 0;
    held = replicate 8192 0;
  }
  pub fresh : stored (open_of 2 7 []).session ≡ record {
    config = record { kind = 2; timescale = 7 };
    ended = false;
    outcome = 0;
    taken = 0;
    lines = 0;
    counts = counted 0 0 0 0;
    columns = record { events = false; columns = 0; start = 0; «end» = 0 };
    held_len = 0;
    held = replicate 8192 0;
  }
