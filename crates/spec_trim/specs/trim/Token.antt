-- One token of a trim list, `Trim(a,b)`: the range that it says, or the number of its refusal, in document 01's order.
use Rattle.std.specs.Prelude.{ℕ, ◌+◌, ◌-◌, cond, List, [], ◌∷◌, length, take, drop, get_or, eqb, ltb, Option, Some, None, Result, Ok, Err}
use Rattle.spec_base.specs.base.Limits.{most_frame}
use Rattle.spec_text.specs.whitespace.White.{trim}
use Rattle.spec_text.specs.pattern.Find.{starts}
use Rattle.spec_text.specs.pattern.Piece.{comma, pieces}
use Rattle.spec_text.specs.text.Number.{number}
use Rattle.spec_trim.specs.declared.trim.Range.{Range}

-- `++` and `Trim(`
abbrev pub mark : List ℕ
mark = 0x2B ∷ 0x2B ∷ []

abbrev pub opening : List ℕ
opening = 0x54 ∷ 0x72 ∷ 0x69 ∷ 0x6D ∷ 0x28 ∷ []

-- the range of the display frames from a on, e excluded
abbrev pub range : ℕ → ℕ → Result Range ℕ
range a e = Ok (record { start = record { 0 = a }; «end» = record { 0 = e } })

-- the frames a to b as a range, end excluded: 4 where a is above b, 5 where b is the largest frame number
unfoldable pub range_of : ℕ → ℕ → Result Range ℕ
range_of a b = cond (ltb b a) (Err 4) (cond (eqb b most_frame) (Err 5) (range a (b + 1)))

-- the range from a and b as they were read: 3 where a is no number, then where b is none
unfoldable pub bounds_of : Option ℕ → Option ℕ → Result Range ℕ
bounds_of None y = Err 3
bounds_of (Some a) None = Err 3
bounds_of (Some a) (Some b) = range_of a b

-- the range from what stands between the commas: 2 unless there is exactly one comma
unfoldable pub pair_of : List (List ℕ) → Result Range ℕ
pair_of [] = Err 2
pair_of (a ∷ []) = Err 2
pair_of (a ∷ b ∷ []) = bounds_of (number most_frame (trim a)) (number most_frame (trim b))
pair_of (a ∷ b ∷ c ∷ more) = Err 2

-- the range from what stands after `Trim(`: 2 unless its last byte is `)`
unfoldable pub closed_of : List ℕ → Result Range ℕ
closed_of r = cond (eqb (get_or r (length r - 1) 0) 0x29) (pair_of (pieces comma (take (length r - 1) r))) (Err 2)

-- the range that a trimmed token says: 2 unless it begins with `Trim(`
unfoldable pub token_of : List ℕ → Result Range ℕ
token_of t = cond (starts opening t) (closed_of (drop 5 t)) (Err 2)

-- a token after a range that ends at prev: 6 where it begins below that
unfoldable pub behind_end : ℕ → Result Range ℕ → Result Range ℕ
behind_end prev (Err n) = Err n
behind_end prev (Ok r) = cond (ltb r.start.0 prev) (Err 6) (Ok r)

unfoldable pub step_of : ℕ → List ℕ → Result Range ℕ
step_of prev t = behind_end prev (token_of (trim t))

-- a token's number in document 01, and its values: start and end of the range, end excluded
unfoldable pub token_number : Result Range ℕ → ℕ
token_number (Ok r) = 0
token_number (Err n) = n

unfoldable pub token_range : Result Range ℕ → List ℕ
token_range (Ok r) = r.start.0 ∷ r.«end».0 ∷ []
token_range (Err n) = []

unfoldable pub token_end : Result Range ℕ → ℕ
token_end (Ok r) = r.«end».0
token_end (Err n) = 0
