-- What an ASS line says by the text alone. A line is given with its terminator and without a BOM.
use Rattle.std.specs.Prelude.{false, cond, List, [], ◌∷◌, ℕ, suc, eqb, ltb, length, drop, Option, Some, None}
use Rattle.spec_text.specs.whitespace.White.{trim}
use Rattle.spec_text.specs.pattern.Find.{starts, equals}
use Rattle.spec_text.specs.text.Line.{text_of, terminator_of}
use Rattle.spec_time.specs.declared.caption_stamp.Stamp.{Stamp}
use Rattle.spec_time.specs.caption_stamp.Read.{time_in}
use Rattle.spec_caption.specs.caption_fate.Says.{unplaced, short, Cue, cue_of, Part, stays, passes, cue, Fault, bad_time}
use Rattle.spec_ass.specs.declared.ass_columns.Columns.{Columns}
use Rattle.spec_ass.specs.ass_columns.Columns.{columns_in, fields, field_at}
use Rattle.spec_ass.specs.ass_columns.Section.{events_name, bracketed, inside, in_section}
use Rattle.spec_ass.specs.ass_write.Tags.{tagged}
use Rattle.spec_ass.specs.ass_write.Frame.{line_frame}

-- `Format:`, `Dialogue:`, `Comment:`
abbrev pub format_word : List ℕ
format_word = 70 ∷ 111 ∷ 114 ∷ 109 ∷ 97 ∷ 116 ∷ 58 ∷ []

abbrev pub dialogue_word : List ℕ
dialogue_word = 68 ∷ 105 ∷ 97 ∷ 108 ∷ 111 ∷ 103 ∷ 117 ∷ 101 ∷ 58 ∷ []

abbrev pub comment_word : List ℕ
comment_word = 67 ∷ 111 ∷ 109 ∷ 109 ∷ 101 ∷ 110 ∷ 116 ∷ 58 ∷ []

-- a fault, or the columns after the line and the part that it is
pub data LineSays : Type 0 where
  faulty : Fault → LineSays
  says : Columns → Part → LineSays

-- a caption whose times read as S to E, with the marks a and b. Tags are looked for in the last field
abbrev pub line_cue : Columns → (line : ℕ) → (word : List ℕ) → List (List ℕ) → (end : List ℕ) → (S a E b : ℕ) → Cue
line_cue c n word fs end S a E b = cue_of n S a E b (tagged (field_at c.columns fs)) false (line_frame c word fs end)

-- both times must read
abbrev pub times_say : Columns → (line : ℕ) → (word : List ℕ) → List (List ℕ) → (end : List ℕ) → Option Stamp → Option Stamp → LineSays
times_say c n word fs end None E = faulty bad_time
times_say c n word fs end (Some S) None = faulty bad_time
times_say c n word fs end (Some S) (Some E) = says c (cue (line_cue c n word fs end S.units S.mark E.units E.mark))

-- a column unknown: warning 1; fewer fields than columns: warning 2; else the two times
unfoldable pub caption_says : Columns → (line : ℕ) → (l word rest : List ℕ) → LineSays
caption_says c n l word rest =
    cond (eqb c.start 0) (says c (passes unplaced n l))
    (cond (eqb c.«end» 0) (says c (passes unplaced n l))
    (cond (ltb (length (fields c.columns rest)) c.columns) (says c (passes short n l))
    (times_say c n word (fields c.columns rest) (terminator_of l)
    (time_in 0 (field_at c.start (fields c.columns rest)))
    (time_in 0 (field_at c.«end» (fields c.columns rest))))))

-- ---- a line; n lines came before it, and t is its text
-- in Events, by the word at its start
unfoldable pub word_says : Columns → (n : ℕ) → (l t : List ℕ) → LineSays
word_says c n l t =
    cond (starts format_word t) (says (columns_in (drop 7 t)) (stays l))
    (cond (starts dialogue_word t) (caption_says c (suc n) l dialogue_word (drop 9 t))
    (cond (starts comment_word t) (caption_says c (suc n) l comment_word (drop 8 t))
    (says c (stays l))))

unfoldable pub text_says : Columns → (n : ℕ) → (l t : List ℕ) → LineSays
text_says c n l t =
    cond (bracketed (trim t)) (says (in_section (equals events_name (inside (trim t))) c) (stays l))
    (cond c.events (word_says c n l t)
    (says c (stays l)))

unfoldable pub line_says : Columns → (n : ℕ) → (l : List ℕ) → LineSays
line_says c n l = text_says c n l (text_of l)
