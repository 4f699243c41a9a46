-- Hexadecimal digits, the width of a number and the digits of a known field, from both sides: by computation.
use mathlib.Core.Path.{◌≡◌, refl}
use mathlib.Core.List.{List, [], ◌∷◌, map}
use Rattle.spec_base.specs.base.Ascii.{ascii}
use Rattle.spec_text.specs.text.Number.{digit, digits, value_from}
use Rattle.spec_json.specs.json.Str.{hex_digit}
use Rattle.spec_json.specs.json.Num.{digit_run, int_width, frac_width, is_exp, exp_width, number_width, is_plain}
use Rattle.spec_json.specs.json.Plain.{plain_of, plain_number, plain_values}

-- `/ 0 9 : @ A F G`, a grave accent, `a f g`; 16 is none
pub hex_rows :
    map hex_digit (0x2F ∷ 0x30 ∷ 0x39 ∷ 0x3A ∷ 0x40 ∷ 0x41 ∷ 0x46 ∷ 0x47 ∷ 0x60 ∷ 0x61 ∷ 0x66 ∷ 0x67 ∷ [])
    ≡ 16 ∷ 0 ∷ 9 ∷ 16 ∷ 16 ∷ 10 ∷ 15 ∷ 16 ∷ 16 ∷ 10 ∷ 15 ∷ 16 ∷ []
unfolding hex_digit
hex_rows = refl

-- a sign, a point or an `e` without a digit behind it is no part of a number; nor is a second digit behind a leading zero
pub number_rows :
    map number_width
    (ascii "1e" ∷ ascii "1e+" ∷ ascii "1E5" ∷ ascii "1e-05" ∷ ascii "-" ∷ ascii "-0" ∷ ascii "01" ∷ ascii "1." ∷ ascii "1.50" ∷ ascii "0.5e+1x" ∷ ascii "+1" ∷ ascii ".5" ∷ [])
    ≡ 1 ∷ 1 ∷ 3 ∷ 5 ∷ 0 ∷ 2 ∷ 1 ∷ 1 ∷ 4 ∷ 6 ∷ 0 ∷ 0 ∷ []
unfolding number_width int_width frac_width is_exp exp_width digit_run digit
number_rows = refl

-- a field of at most 255: its number, and its value where there is one
pub plain_rows :
    map (λ s. plain_number (plain_of 255 s) ∷ plain_values (plain_of 255 s)) (ascii "255" ∷ ascii "256" ∷ ascii "0" ∷ ascii "00" ∷ ascii "07" ∷ ascii "+1" ∷ ascii "-0" ∷ ascii "1.0" ∷ [] ∷ [])
    ≡ (0 ∷ 255 ∷ [])
    ∷ (23 ∷ [])
    ∷ (0 ∷ 0 ∷ [])
    ∷ (23 ∷ [])
    ∷ (23 ∷ [])
    ∷ (23 ∷ [])
    ∷ (23 ∷ [])
    ∷ (23 ∷ [])
    ∷ (23 ∷ [])
    ∷ []
unfolding plain_of is_plain digits digit value_from
plain_rows = refl
