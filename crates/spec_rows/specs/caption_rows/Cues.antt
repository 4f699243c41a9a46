-- The captions of a whole text, by the plain reader (promise/specs/Plain): six numbers a caption, in the text's order; how many there are; and the line of the
-- first fault. With a fault the captions before its line or block are told, as the retimer writes them.
use Rattle.std.specs.Prelude.{◌≡◌, true, not, cond, List, [], ◌∷◌, ◌++◌, ℕ, zero, suc, ◌+◌, ◌*◌, ◌-◌, eqb, leb, length}
use Rattle.spec_base.specs.base.Limits.{most_taken}
use Rattle.spec_base.specs.base.Refusal.{◌or_else◌, fault_unless, unless_refused}
use Rattle.spec_base.specs.base.Put.{put}
use Rattle.spec_text.specs.text.Line.{lines_of, concat, text_of}
use Rattle.spec_time.specs.caption_time.Kind.{kind_bad}
use Rattle.spec_caption.specs.caption_fate.Says.{reason_number, Cue, Part, stays, passes, cue, captions_in}
use Rattle.spec_caption.specs.caption_fate.Bom.{behind_bom}
use Rattle.promise.specs.Plain.{bom_length, plain_read}
use Rattle.spec_rows.specs.caption_rows.Said.{words_length}
use Rattle.spec_rows.specs.caption_rows.Walk.{walk_of}

-- ---- lines by their numbers, from 1: the lines before one, and the line itself
abbrev pub lines_before : (line : ℕ) → List (List ℕ) → List (List ℕ)
lines_before zero ls = []
lines_before (suc zero) ls = []
lines_before (suc (suc n)) [] = []
lines_before (suc (suc n)) (l ∷ ls) = l ∷ lines_before (suc n) ls

abbrev pub line_of : (line : ℕ) → List (List ℕ) → List ℕ
line_of zero ls = []
line_of (suc n) [] = []
line_of (suc zero) (l ∷ ls) = l
line_of (suc (suc n)) (l ∷ ls) = line_of (suc n) ls

-- the byte of the text at which a line begins
abbrev pub line_at : (text : List ℕ) → (line : ℕ) → ℕ
line_at t n = bom_length t + length (concat (lines_before n (lines_of (behind_bom t))))

-- ---- where the words of a caption stand: in ASS at the end of its line, before the terminator; in SRT and WebVTT from the line behind the timing line on
unfoldable pub words_at : (kind : ℕ) → (text : List ℕ) → Cue → ℕ
words_at kind t q =
    cond (eqb kind 0) (line_at t q.line + (length (text_of (line_of q.line (lines_of (behind_bom t)))) - words_length kind q)) (line_at t (suc q.line))

-- ---- a row: line; 0, or warning 1 or 2 with which the caption passes; start, end; where the words stand and how many bytes they are. One that passes has
-- no times, and its whole line as words
abbrev pub caption_row : (kind : ℕ) → (text : List ℕ) → Part → List ℕ
caption_row kind t (stays l) = []
caption_row kind t (passes r n l) = n ∷ reason_number r ∷ 0 ∷ 0 ∷ line_at t n ∷ length (text_of l) ∷ []
caption_row kind t (cue q) = q.line ∷ 0 ∷ q.start ∷ q.stop ∷ words_at kind t q ∷ words_length kind q ∷ []

abbrev pub rows_of : (kind : ℕ) → (text : List ℕ) → List Part → List ℕ
rows_of kind t [] = []
rows_of kind t (p ∷ ps) = caption_row kind t p ++ rows_of kind t ps

-- ---- 16: the kind, the text's length, fewer than two told places, fewer than six places for a caption
unfoldable pub cues_refused : (kind : ℕ) → (text : List ℕ) → (lent told : ℕ) → ℕ
cues_refused kind t lent told =
    fault_unless (not (kind_bad kind)) 16 or_else
    fault_unless (leb (length t) most_taken) 16 or_else
    fault_unless (leb 2 told) 16 or_else
    fault_unless (leb (6 * captions_in (plain_read kind true t).parts) lent) 16

-- the number: a refusal, else the reader's first fault
unfoldable pub cues_number : (kind : ℕ) → (text : List ℕ) → (lent told : ℕ) → ℕ
cues_number kind t lent told = cues_refused kind t lent told or_else (plain_read kind true t).fault

-- how many captions, and the line of the fault (0: none)
unfoldable pub cues_told : (kind : ℕ) → (text : List ℕ) → List ℕ
cues_told kind t = captions_in (plain_read kind true t).parts ∷ (walk_of kind t).line ∷ []

pub record CuesRead (kind : ℕ) (text rows rows' told told' : List ℕ) (number : ℕ) : Type 0 where
  pub answer : number ≡ cues_number kind text (length rows) (length told)
  pub written : rows' ≡ put (unless_refused (cues_refused kind text (length rows) (length told)) (rows_of kind text (plain_read kind true text).parts)) rows
  pub tells : told' ≡ put (unless_refused (cues_refused kind text (length rows) (length told)) (cues_told kind text)) told
