-- The first byte that may stand in a JSON string as it is, from both sides: by computation.
use mathlib.Core.Path.{◌≡◌, refl}
use mathlib.Core.List.{[], ◌∷◌}
use Rattle.spec_json.specs.json.Str.{char_wide}

-- 00 and 1F are refused, 20 and 7F are characters of one byte; a quotation mark ends the string
control_bytes : char_wide (0x00 ∷ []) ∷ char_wide (0x1F ∷ []) ∷ char_wide (0x20 ∷ []) ∷ char_wide (0x7F ∷ []) ∷ char_wide (0x22 ∷ []) ∷ [] ≡ 0 ∷ 0 ∷ 1 ∷ 1 ∷ 0 ∷ []
unfolding char_wide
control_bytes = refl
