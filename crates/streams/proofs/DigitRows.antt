-- The digits of numbers in plain bytes, from both sides of 10 and of 10 ^ 19, and of the largest.
use Rattle.std.specs.Prelude.{◌≡◌, [], ◌∷◌}
use mathlib.Core.Path.{refl}
use Rattle.spec_time.specs.caption_stamp.Write.{pad, width_under, width}
use Rattle.spec_json.specs.json.Quote.{decimal}

record Digits : Type 0 where
  none : decimal 0 ≡ 48 ∷ []
  one : decimal 9 ≡ 57 ∷ []
  two : decimal 10 ≡ 49 ∷ 48 ∷ []
  nineteen : decimal 9999999999999999999
      ≡ 57 ∷ 57 ∷ 57 ∷ 57 ∷ 57 ∷ 57 ∷ 57 ∷ 57 ∷ 57 ∷ 57 ∷ 57 ∷ 57 ∷ 57 ∷ 57 ∷ 57 ∷ 57 ∷ 57 ∷ 57 ∷ 57 ∷ []
  twenty : decimal 10000000000000000000
      ≡ 49 ∷ 48 ∷ 48 ∷ 48 ∷ 48 ∷ 48 ∷ 48 ∷ 48 ∷ 48 ∷ 48 ∷ 48 ∷ 48 ∷ 48 ∷ 48 ∷ 48 ∷ 48 ∷ 48 ∷ 48 ∷ 48 ∷ 48 ∷ []
  -- 18,446,744,073,709,551,615
  largest : decimal 18446744073709551615
      ≡ 49 ∷ 56 ∷ 52 ∷ 52 ∷ 54 ∷ 55 ∷ 52 ∷ 52 ∷ 48 ∷ 55 ∷ 51 ∷ 55 ∷ 48 ∷ 57 ∷ 53 ∷ 53 ∷ 49 ∷ 54 ∷ 49 ∷ 53 ∷ []

digit_rows : Digits
unfolding decimal pad width width_under
digit_rows = record { none = refl; one = refl; two = refl; nineteen = refl; twenty = refl; largest = refl }
