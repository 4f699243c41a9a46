-- The parts of a row as the code walks them: what stands before the value of an item, and the item, in an array (opened by 5B) or an object (7B).
use Rattle.std.specs.Prelude.{ℕ, suc, ◌+◌, Bool, ◌||◌, cond, List, [], eqb, length, get_or, drop}
use Rattle.spec_base.specs.base.Width.{by_width}
use Rattle.spec_json.specs.json.Space.{spaces, padded}
use Rattle.spec_json.specs.json.Value.{key_width, member_width, row_width, row_items, value_width}

unfoldable pub is_open : ℕ → Bool
is_open b = eqb b 0x5B || eqb b 0x7B

unfoldable pub close_of : (opener : ℕ) → ℕ
close_of b = cond (eqb b 0x5B) 0x5D 0x7D

-- white space, and in an object the key before it; all of s where there is no key
unfoldable pub lead_width : (opener : ℕ) → List ℕ → ℕ
lead_width b s = cond (eqb b 0x7B) (by_width (key_width s) (length s) (λ k. suc k + spaces (drop (suc k) s))) (spaces s)

unfoldable pub item_width : (opener : ℕ) → (value : List ℕ → ℕ) → List ℕ → ℕ
item_width b value s = cond (eqb b 0x7B) (member_width value s) (padded value s)

-- a row of values of a depth
abbrev pub row_of : (depth : ℕ) → (opener : ℕ) → List ℕ → ℕ
row_of d b s = row_width (item_width b (value_width d)) (close_of b) (length s) s

abbrev pub items_of : (depth : ℕ) → (opener : ℕ) → List ℕ → List (List ℕ)
items_of d b s = row_items (item_width b (value_width d)) (close_of b) (length s) s

-- the row of the array or object s; nothing where it is empty
unfoldable pub row_in : (opener : ℕ) → List ℕ → List ℕ
row_in b s = cond (eqb (get_or (drop 1 s) (spaces (drop 1 s)) 0) (close_of b)) [] (drop 1 s)

-- what is left of a row behind an item of width k and a comma
unfoldable pub next_row : (k : ℕ) → List ℕ → List ℕ
next_row k s = cond (eqb (get_or s k 0) 0x2C) (drop (suc k) s) []
