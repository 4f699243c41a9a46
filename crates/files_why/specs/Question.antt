-- A line of `times.txt`: `ass`, `srt` or `vtt`, then a caption's start and end as they stand in the captions, parted by spaces.
use Rattle.std.specs.Prelude.{cond, List, [], ◌∷◌, ℕ, Result, Ok, Err, None, Some}
use Rattle.std.specs.declared.option.Option.{Option}
use Rattle.spec_text.specs.whitespace.White.{trim}
use Rattle.spec_text.specs.pattern.Find.{equals, up_to, past}
use Rattle.spec_time.specs.declared.caption_stamp.Stamp.{Stamp}
use Rattle.spec_time.specs.caption_stamp.Read.{time_in}
use Rattle.files_why.specs.declared.question.Question.{Question}
use Rattle.files_why.specs.declared.question.Unread.{Unread}
use Rattle.files_why.specs.declared.question.Unread.TheVariants.{Kind, Times}

-- the kind that a word names: `ass` 0, `srt` 1, `vtt` 2
unfoldable pub kind_of : List ℕ → Option ℕ
kind_of w =
    cond (equals (97 ∷ 115 ∷ 115 ∷ []) w) (Some 0)
    (cond (equals (115 ∷ 114 ∷ 116 ∷ []) w) (Some 1)
    (cond (equals (118 ∷ 116 ∷ 116 ∷ []) w) (Some 2)
    None))

-- the first word of a trimmed text, and what stands behind it
abbrev pub word_of : List ℕ → List ℕ
word_of t = up_to (32 ∷ []) t

abbrev pub behind_word : List ℕ → List ℕ
behind_word t = trim (past (32 ∷ []) t)

-- both times must read
abbrev pub both_read : (kind : ℕ) → Option Stamp → Option Stamp → Result Question Unread
both_read kind None e = Err Times
both_read kind (Some s) None = Err Times
both_read kind (Some s) (Some e) = Ok (record { kind = kind; start = s.units; stop = e.units; mark = s.mark })

-- the kind first
abbrev pub asked_by : Option ℕ → (times : List ℕ) → Result Question Unread
asked_by None t = Err Kind
asked_by (Some kind) t = both_read kind (time_in kind (word_of t)) (time_in kind (behind_word t))

unfoldable pub question_of : (line : List ℕ) → Result Question Unread
question_of l = asked_by (kind_of (word_of (trim l))) (behind_word (trim l))
