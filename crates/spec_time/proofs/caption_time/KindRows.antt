-- What each kind fixes about times, row by row, as the papers have it: units of a second, mark, digits of the fraction, least digits of hours.
use Prim.Native.Nat.{ℕ}
use mathlib.Core.List.{List, [], ◌∷◌, map}
use mathlib.Core.Path.{◌≡◌, refl}
use Rattle.spec_time.specs.caption_time.Kind.{units_of, mark_of, fraction_digits, hour_digits}

abbrev row : ℕ → List ℕ
row kind = units_of kind ∷ mark_of kind ∷ fraction_digits kind ∷ hour_digits kind ∷ []

-- ASS, SRT, WebVTT, and no kind
pub kind_rows :
    map row (0 ∷ 1 ∷ 2 ∷ 3 ∷ [])
    ≡ (100 ∷ 46 ∷ 2 ∷ 1 ∷ [])
    ∷ (1000 ∷ 44 ∷ 3 ∷ 2 ∷ [])
    ∷ (1000 ∷ 46 ∷ 3 ∷ 2 ∷ [])
    ∷ (0 ∷ 0 ∷ 0 ∷ 0 ∷ [])
    ∷ []
unfolding units_of mark_of fraction_digits hour_digits
kind_rows = refl
