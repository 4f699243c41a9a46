-- Lines: bytes cut after each LF; a line's terminator is LF or CR LF, and a last line may have none.
use Rattle.std.specs.Prelude.{ℕ, suc, ◌-◌, Bool, true, false, cond, List, [], ◌∷◌, ◌++◌, eqb, length, get_or, take, drop}
use Rattle.spec_text.specs.whitespace.White.{trim_head}
use Rattle.spec_text.specs.pattern.Piece.{onto_first}

-- how many bytes the first line of s has, with its LF
unfoldable pub line_length : List ℕ → ℕ
line_length [] = 0
line_length (b ∷ s) = cond (eqb b 10) 1 (suc (line_length s))

-- the lines of s, each with its LF; the last may have none
unfoldable pub lines_of : List ℕ → List (List ℕ)
lines_of [] = []
lines_of (b ∷ s) = cond (eqb b 10) ((b ∷ []) ∷ lines_of s) (onto_first b (lines_of s))

-- lines one behind the other, and how many they are
abbrev pub concat : List (List ℕ) → List ℕ
concat [] = []
concat (l ∷ ls) = l ++ concat ls

abbrev pub line_count : List (List ℕ) → ℕ
line_count [] = 0
line_count (l ∷ ls) = suc (line_count ls)

-- how many bytes the terminator of a line has
unfoldable pub terminator_length : List ℕ → ℕ
terminator_length l = cond (eqb (get_or l (length l - 1) 0) 10) (cond (eqb (get_or l (length l - 2) 0) 13) 2 1) 0

-- a line without its terminator, and the terminator
unfoldable pub text_of : List ℕ → List ℕ
text_of l = take (length l - terminator_length l) l

unfoldable pub terminator_of : List ℕ → List ℕ
terminator_of l = drop (length l - terminator_length l) l

abbrev pub is_empty : List ℕ → Bool
is_empty [] = true
is_empty (b ∷ l) = false

-- trimmed empty
unfoldable pub blank : List ℕ → Bool
blank l = is_empty (trim_head l)

-- the first LF is the last byte; no LF at all
unfoldable pub ends_line : List ℕ → Bool
ends_line [] = false
ends_line (b ∷ l) = cond (eqb b 10) (is_empty l) (ends_line l)

unfoldable pub has_lf : List ℕ → Bool
has_lf [] = false
has_lf (b ∷ l) = cond (eqb b 10) true (has_lf l)
