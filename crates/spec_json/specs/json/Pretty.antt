-- What serde_json's pretty form writes of an object and of an array with items: p, a line end and an indent, before each item; commas; q, the same, before the bracket that closes.
-- Without items it is the two brackets.
use Rattle.std.specs.Prelude.{List, [], ◌∷◌, ◌++◌, ℕ}
use Rattle.spec_json.specs.json.Member.{Member}
use Rattle.spec_json.specs.json.Quote.{quoted}

unfoldable pub item_lines : (p : List ℕ) → List ℕ → List (List ℕ) → List ℕ
item_lines p x [] = p ++ x
item_lines p x (y ∷ ys) = (p ++ x) ++ 0x2C ∷ item_lines p y ys

-- a name, a colon and a space, the value
abbrev pub member_line : Member → List ℕ
member_line f = quoted f.name ++ 0x3A ∷ 0x20 ∷ f.value

abbrev pub member_lines : List Member → List (List ℕ)
member_lines [] = []
member_lines (f ∷ fs) = member_line f ∷ member_lines fs

unfoldable pub pretty_object : (p q : List ℕ) → Member → List Member → List ℕ
pretty_object p q f fs = 0x7B ∷ (item_lines p (member_line f) (member_lines fs) ++ q) ++ 0x7D ∷ []

unfoldable pub pretty_array : (p q : List ℕ) → List ℕ → List (List ℕ) → List ℕ
pretty_array p q v vs = 0x5B ∷ (item_lines p v vs ++ q) ++ 0x5D ∷ []
