-- A text parted by a pattern, from the left.
use Rattle.std.specs.Prelude.{ℕ, zero, suc, ◌-◌, cond, List, [], ◌∷◌, length}
use Rattle.spec_text.specs.pattern.Find.{starts}

-- the byte b before the first of the pieces ls
abbrev pub onto_first : ℕ → List (List ℕ) → List (List ℕ)
onto_first b [] = (b ∷ []) ∷ []
onto_first b (l ∷ ls) = (b ∷ l) ∷ ls

-- s, less its first k bytes, parted by p
unfoldable pub pieces_from : List ℕ → List ℕ → ℕ → List (List ℕ)
pieces_from p [] k = [] ∷ []
pieces_from p (b ∷ s) (suc k) = pieces_from p s k
pieces_from p (b ∷ s) zero = cond (starts p (b ∷ s)) ([] ∷ pieces_from p s (length p - 1)) (onto_first b (pieces_from p s 0))

-- the pieces of s between the places where p stands (p not empty): one more than these, so at least one
unfoldable pub pieces : List ℕ → List ℕ → List (List ℕ)
pieces p s = pieces_from p s 0

-- `,`, which parts columns, fields and the two numbers of a trim
abbrev pub comma : List ℕ
comma = 44 ∷ []
