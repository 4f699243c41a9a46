-- What the digits of a known field say, at most `most`.
use Rattle.std.specs.Prelude.{ℕ, Bool, ◌&&◌, not, cond, List, [], ◌∷◌, eqb, length, get_or, Option, Some, None}
use Rattle.spec_text.specs.text.Number.{value_from}
use Rattle.spec_json.specs.json.Num.{is_plain}

-- a zero before another byte
unfoldable pub leads_zero : List ℕ → Bool
leads_zero s = eqb (get_or s 0 0) 0x30 && not (eqb (length s) 1)

unfoldable pub plain_of : (most : ℕ) → List ℕ → Option ℕ
plain_of most s = cond (is_plain most s) (Some (value_from 0 s)) None

-- its number and values: 23 for a text that is no plain number, without values
abbrev pub plain_number : Option ℕ → ℕ
plain_number (Some v) = 0
plain_number None = 23

abbrev pub plain_values : Option ℕ → List ℕ
plain_values (Some v) = v ∷ []
plain_values None = []
