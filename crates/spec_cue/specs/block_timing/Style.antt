-- The rules of a kind whose captions are blocks of lines: SRT and WebVTT.
use Rattle.std.specs.Prelude.{Bool, true, false, cond, List, [], ◌∷◌, ℕ, min, ltb, eqb, length, get_or, Option}
use Rattle.spec_text.specs.utf8.Utf8.{tail}
use Rattle.spec_text.specs.pattern.Find.{first}
use Rattle.spec_text.specs.text.Number.{digit}
use Rattle.spec_text.specs.text.Line.{is_empty, text_of, blank}
use Rattle.spec_time.specs.declared.caption_stamp.Stamp.{Stamp}
use Rattle.spec_time.specs.caption_stamp.Read.{time_in}

-- a line that ends a block, by kind: SRT's is trimmed empty, WebVTT's has nothing but its terminator; ASS has no blocks
unfoldable pub blank_in : (kind : ℕ) → List ℕ → Bool
blank_in kind l = cond (eqb kind 1) (blank l) (cond (eqb kind 2) (is_empty (text_of l)) false)

-- ---- how many bytes of what follows the arrow and its White_Space are the end time
-- SRT's: the first 12 bytes; all of it where fewer stand there, or byte 12 splits a character
unfoldable pub srt_end : List ℕ → ℕ
srt_end r = cond (ltb (length r) 12) (length r) (cond (tail (get_or r 12 0)) (length r) 12)

-- WebVTT's: those before the first space or tab
unfoldable pub vtt_end : List ℕ → ℕ
vtt_end r = min (first (32 ∷ []) r) (first (9 ∷ []) r)

unfoldable pub end_in : (kind : ℕ) → List ℕ → ℕ
end_in kind r = cond (eqb kind 2) (vtt_end r) (srt_end r)

-- ---- WebVTT: times inside a cue, in the bytes of the lines below its timing line: `<` and directly behind it a digit. LF parts two lines, so
-- both stand in one line
unfoldable pub stamp_head : List ℕ → Bool
stamp_head s = cond (eqb (get_or s 0 0) 60) (digit (get_or s 1 0)) false

unfoldable pub stamp_in : List ℕ → Bool
stamp_in [] = false
stamp_in (b ∷ r) = cond (stamp_head (b ∷ r)) true (stamp_in r)

unfoldable pub stamps_in : (kind : ℕ) → List ℕ → Bool
stamps_in kind t = cond (eqb kind 2) (stamp_in t) false

-- blank: a line that ends a block; time: a time's text read; end_length: the end time's bytes; stamps: times inside a cue
pub record Style : Type 0 where
  pub blank : List ℕ → Bool
  pub time : List ℕ → Option Stamp
  pub end_length : List ℕ → ℕ
  pub stamps : List ℕ → Bool

abbrev pub style_of : (kind : ℕ) → Style
style_of kind = record { blank = blank_in kind; time = time_in kind; end_length = end_in kind; stamps = stamps_in kind }
