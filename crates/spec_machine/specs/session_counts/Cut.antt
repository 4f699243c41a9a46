-- A text cut into the lines that LF closes, and the rest behind them.
use Rattle.std.specs.Prelude.{Bool, true, false, List, [], ◌∷◌, ◌++◌, ℕ, eqb}

-- each piece ends in its first element that passes a test; the rest has none
pub record Cut (A : Type 0) : Type 0 where
  pub pieces : List (List A)
  pub rest : List A

module _ {A : Type 0} where
  -- a list that ends no piece goes before what is first: a piece, or the rest
  abbrev pub before : List A → List (List A) → List A → Cut A
  before h [] r = record { pieces = []; rest = h ++ r }
  before h (l ∷ ls) r = record { pieces = (h ++ l) ∷ ls; rest = r }

  abbrev pub push : Bool → A → Cut A → Cut A
  push true a c = record { pieces = (a ∷ []) ∷ c.pieces; rest = c.rest }
  push false a c = before (a ∷ []) c.pieces c.rest

  abbrev pub cut : (A → Bool) → List A → Cut A
  cut p [] = record { pieces = []; rest = [] }
  cut p (a ∷ t) = push (p a) a (cut p t)

abbrev pub is_lf : ℕ → Bool
is_lf b = eqb b 10

-- the lines that LF closes, and the unfinished line
abbrev pub closed_lines : List ℕ → List (List ℕ)
closed_lines s = (cut is_lf s).pieces

abbrev pub unfinished : List ℕ → List ℕ
unfinished s = (cut is_lf s).rest
