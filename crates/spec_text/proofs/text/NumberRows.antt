-- Numbers of at most 99: by computation.
use mathlib.Core.Path.{◌≡◌, refl}
use mathlib.Core.List.{[], ◌∷◌, map}
use Rattle.spec_base.specs.base.Ascii.{ascii}
use Rattle.spec_text.specs.text.Number.{digit, digits, value_from, natural, unsigned, number, number_fault, number_values}

-- leading zeros and one plus sign are taken
pub number_rows : map (λ s. number_values (number 99 s)) (ascii "99" ∷ ascii "+5" ∷ ascii "007" ∷ ascii "0" ∷ []) ≡ (99 ∷ []) ∷ (5 ∷ []) ∷ (7 ∷ []) ∷ (0 ∷ []) ∷ []
unfolding number unsigned natural digits digit value_from
number_rows = refl

-- above the limit, a minus sign, two plus signs, a sign alone, nothing, a space, `/` and `:`
pub bad_rows :
    map (λ s. number_fault 3 (number 99 s)) (ascii "100" ∷ ascii "-0" ∷ ascii "++5" ∷ ascii "+" ∷ [] ∷ ascii " 5" ∷ ascii "/" ∷ ascii ":" ∷ [])
    ≡ 3 ∷ 3 ∷ 3 ∷ 3 ∷ 3 ∷ 3 ∷ 3 ∷ 3 ∷ []
unfolding number unsigned natural digits digit value_from
bad_rows = refl
