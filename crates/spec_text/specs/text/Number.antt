-- Decimal numbers: an optional `+` and one or more digits, the value at most a given one.
use Rattle.std.specs.Prelude.{ℕ, ◌+◌, ◌*◌, ◌-◌, Bool, true, false, List, [], ◌∷◌, eqb, ltb, leb, cond, Option, Some, None}

-- a digit, 30 to 39
unfoldable pub digit : ℕ → Bool
digit b = cond (ltb b 0x30) false (leb b 0x39)

unfoldable pub digits : List ℕ → Bool
digits [] = true
digits (b ∷ r) = cond (digit b) (digits r) false

-- the number that the digits of a list write after those that wrote v
unfoldable pub value_from : ℕ → List ℕ → ℕ
value_from v [] = v
value_from v (b ∷ r) = value_from (v * 10 + (b - 0x30)) r

-- one or more digits, whose value is at most `most`
unfoldable pub natural : ℕ → List ℕ → Option ℕ
natural most [] = None
natural most (b ∷ r) = cond (digits (b ∷ r)) (cond (leb (value_from 0 (b ∷ r)) most) (Some (value_from 0 (b ∷ r))) None) None

-- s without a leading plus sign
unfoldable pub unsigned : List ℕ → List ℕ
unsigned [] = []
unsigned (b ∷ r) = cond (eqb b 0x2B) r (b ∷ r)

unfoldable pub number : ℕ → List ℕ → Option ℕ
number most s = natural most (unsigned s)

-- ---- an answer's number in document 01, k for one that is bad (3 in a trim list, 22 in a time), and its values
abbrev pub number_fault : (k : ℕ) → Option ℕ → ℕ
number_fault k (Some v) = 0
number_fault k None = k

abbrev pub number_values : Option ℕ → List ℕ
number_values (Some v) = v ∷ []
number_values None = []
