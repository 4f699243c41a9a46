-- RFC 8259, sections 3 to 5: values. A value of depth d has at most d arrays or objects one inside the other.
--     value = false / null / true / object / array / number / string
--     array = begin-array [ value *( value-separator value ) ] end-array
--     object = begin-object [ member *( value-separator member ) ] end-object        member = string name-separator value
use Rattle.std.specs.Prelude.{ℕ, zero, suc, ◌+◌, Bool, true, false, cond, List, [], ◌∷◌, eqb, length, get_or, take, drop}
use Rattle.spec_base.specs.base.Ascii.{ascii}
use Rattle.spec_base.specs.base.Width.{by_width}
use Rattle.spec_text.specs.pattern.Find.{starts}
use Rattle.spec_json.specs.json.Space.{spaces, more, joined, padded}
use Rattle.spec_json.specs.json.Str.{string_width}
use Rattle.spec_json.specs.json.Num.{number_width}

unfoldable pub literal_width : List ℕ → ℕ
literal_width s = cond (starts (ascii "true") s) 4 (cond (starts (ascii "null") s) 4 (cond (starts (ascii "false") s) 5 0))

-- a literal, a string or a number: no two begin with the same byte
unfoldable pub scalar_width : List ℕ → ℕ
scalar_width s = cond (eqb (get_or s 0 0) 0x22) (string_width s) (by_width (literal_width s) (number_width s) (λ k. suc k))

-- white space, a string, white space and a colon
abbrev pub colon_at : List ℕ → ℕ → ℕ
colon_at s n = cond (eqb (get_or s n 0) 0x3A) (suc n) 0

unfoldable pub key_width : List ℕ → ℕ
key_width s = by_width (string_width (drop (spaces s) s)) 0 (λ k. colon_at s (spaces s + suc k + spaces (drop (spaces s + suc k) s)))

-- a member, with the white space around it
unfoldable pub member_width : (value : List ℕ → ℕ) → List ℕ → ℕ
member_width value s = by_width (key_width s) 0 (λ k. joined (suc k) (padded value (drop (suc k) s)))

-- ---- a row: items with commas between them, up to the byte that closes it
module _ (item : List ℕ → ℕ) (close : ℕ) where
  -- how many bytes with that byte, of at most `fuel` items
  unfoldable pub row_width : (fuel : ℕ) → List ℕ → ℕ
  row_width zero s = 0
  row_width (suc n) s =
      by_width (item s) 0
      (λ k. elim (eqb (get_or s (suc k) 0) close) [
        | true ↦ suc (suc k)
        | false ↦ elim (eqb (get_or s (suc k) 0) 0x2C) [ true ↦ joined (suc (suc k)) (row_width n (drop (suc (suc k)) s)) | false ↦ 0 ]
      ])

  -- the items, each as it stands
  unfoldable pub row_items : (fuel : ℕ) → List ℕ → List (List ℕ)
  row_items zero s = []
  row_items (suc n) s =
      by_width (item s) []
      (λ k. take (suc k) s ∷ elim (eqb (get_or s (suc k) 0) 0x2C) [ true ↦ row_items n (drop (suc (suc k)) s) | false ↦ [] ])

  -- s behind the byte that opens it: nothing but white space, or a row. Each item has a byte or more, so its length is fuel enough
  abbrev pub inside_width : List ℕ → ℕ
  inside_width s = elim (eqb (get_or s (spaces s) 0) close) [ true ↦ suc (spaces s) | false ↦ row_width (length s) s ]

  abbrev pub inside_items : List ℕ → List (List ℕ)
  inside_items s = elim (eqb (get_or s (spaces s) 0) close) [ true ↦ [] | false ↦ row_items (length s) s ]

-- the width of the value at the head of s
unfoldable pub value_width : (depth : ℕ) → List ℕ → ℕ
value_width zero s = scalar_width s
value_width (suc d) s =
    elim (eqb (get_or s 0 0) 0x5B) [
      | true ↦ more (inside_width (padded (λ t. value_width d t)) 0x5D (drop 1 s))
      | false ↦ elim (eqb (get_or s 0 0) 0x7B) [ true ↦ more (inside_width (member_width (λ t. value_width d t)) 0x7D (drop 1 s)) | false ↦ scalar_width s ]
    ]

-- s is one value of depth d with nothing around it
abbrev pub is_value : (depth : ℕ) → List ℕ → Bool
is_value d s = elim (value_width d s) [ zero ↦ false | suc k ↦ eqb (suc k) (length s) ]
