-- A caption time as text, read. A text is the list of its bytes.
use Rattle.std.specs.Prelude.{ℕ, ◌+◌, ◌-◌, ◌*◌, ◌≤◌, cond, eqb, ltb, length, List, [], ◌∷◌, Option, Some, None}
use Rattle.spec_base.specs.base.Limits.{most_hours, most_minutes, most_seconds}
use Rattle.spec_text.specs.text.Number.{natural, number}
use Rattle.spec_text.specs.pattern.Find.{contains, up_to, past}
use Rattle.spec_text.specs.pattern.Piece.{comma}
use Rattle.spec_text.specs.whitespace.White.{trim}
use Rattle.spec_time.specs.declared.caption_stamp.Stamp.{Stamp}
use Rattle.spec_time.specs.caption_time.Kind.{kind_bad, units_of, mark_of}

-- a time that was read
abbrev pub stamp : (units mark : ℕ) → Option Stamp
stamp units mark = Some (record { units = units; mark = mark })

-- the units of four parts, and the mark that was seen
abbrev pub time_from : (U mark : ℕ) → Option ℕ → Option ℕ → Option ℕ → Option ℕ → Option Stamp
time_from U mark (Some h) (Some m) (Some s) (Some f) = stamp (((h * 60 + m) * 60 + s) * U + f) mark
time_from U mark (Some h) (Some m) (Some s) None = None
time_from U mark (Some h) (Some m) None f = None
time_from U mark (Some h) None s f = None
time_from U mark None m s f = None

-- `:`
abbrev pub colon : List ℕ
colon = 58 ∷ []

-- h:m:s and then the mark and the fraction, each part a number within its limit, f below U. A missing `:` or mark leaves an empty part, which is no number.
unfoldable pub time_with : (U mark : ℕ) → List ℕ → Option Stamp
time_with U mark text =
    time_from U mark
    (number most_hours (up_to colon text))
    (number most_minutes (up_to colon (past colon text)))
    (number most_seconds (up_to (mark ∷ []) (past colon (past colon text))))
    (number (U - 1) (past (mark ∷ []) (past colon (past colon text))))

-- the mark before the fraction of a trimmed text: in SRT a comma where one stands behind the second `:`, else a point; ASS has its own
unfoldable pub mark_in : (kind : ℕ) → List ℕ → ℕ
mark_in kind t = cond (eqb kind 1) (cond (contains comma (past colon (past colon t))) 44 46) (mark_of kind)

-- ---- WebVTT: digits alone, in fixed widths
-- `.`
abbrev pub point : List ℕ
point = 46 ∷ []

-- exactly w digits, and at least two: no `+`
unfoldable pub wide_by : (w most : ℕ) → List ℕ → Option ℕ
wide_by w most s = cond (eqb (length s) w) (natural most s) None

unfoldable pub wide_from : (most : ℕ) → List ℕ → Option ℕ
wide_from most s = cond (ltb (length s) 2) None (natural most s)

-- mm:ss.ttt behind the hours h
abbrev pub minutes_on : (h : Option ℕ) → List ℕ → Option Stamp
minutes_on h t =
    time_from 1000 46 h
    (wide_by 2 most_minutes (up_to colon t))
    (wide_by 2 most_seconds (up_to point (past colon t)))
    (wide_by 3 999 (past point (past colon t)))

-- hours stand before the first of two colons; with one colon there are none
unfoldable pub vtt_time : List ℕ → Option Stamp
vtt_time t = cond (contains colon (past colon t)) (minutes_on (wide_from most_hours (up_to colon t)) (past colon t)) (minutes_on (Some 0) t)

-- the time that a text, trimmed, says in a kind: `h:m:s.f` in ASS, `h:m:s,f` or `h:m:s.f` in SRT, `mm:ss.ttt` or `hh:mm:ss.ttt` in WebVTT
unfoldable pub time_in : (kind : ℕ) → List ℕ → Option Stamp
time_in kind text = cond (kind_bad kind) None (cond (eqb kind 2) (vtt_time (trim text)) (time_with (units_of kind) (mark_in kind (trim text)) (trim text)))

-- the number of the answer (22, bad time), and its values
abbrev pub time_number : Option Stamp → ℕ
time_number (Some t) = 0
time_number None = 22

abbrev pub time_units : Option Stamp → ℕ
time_units (Some t) = t.units
time_units None = 0

abbrev pub time_mark : Option Stamp → ℕ
time_mark (Some t) = t.mark
time_mark None = 0

-- a number that was read is at most k
abbrev pub Below : ℕ → Option ℕ → Type 0
Below k (Some n) = n ≤ k
Below k None = Unit
