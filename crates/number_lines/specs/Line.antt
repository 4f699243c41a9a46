-- A line of a name and numbers: the name, for each number a space and its decimal digits, and a line end.
use Rattle.std.specs.Prelude.{cond, List, [], ◌∷◌, ◌++◌, ℕ, leb, length}
use Rattle.spec_json.specs.json.Quote.{decimal}

unfoldable pub spaced : ℕ → List ℕ
spaced n = 0x20 ∷ decimal n

unfoldable pub numbers_text : List ℕ → List ℕ
numbers_text [] = []
numbers_text (n ∷ ns) = spaced n ++ numbers_text ns

unfoldable pub line_text : (name numbers : List ℕ) → List ℕ
line_text name ns = (name ++ numbers_text ns) ++ (0x0A ∷ [])

-- how many bytes are printed of it: all, where they are at most 512
unfoldable pub printed_length : (name numbers : List ℕ) → ℕ
printed_length name ns = cond (leb (length (line_text name ns)) 512) (length (line_text name ns)) 0
