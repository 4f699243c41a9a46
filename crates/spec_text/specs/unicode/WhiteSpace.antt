-- Unicode White_Space as document 01 lists it: ranges of code points, first and last.
use Rattle.std.specs.Prelude.{ℕ, Bool, false, ◌&&◌, ◌||◌, List, [], ◌∷◌, leb}

abbrev pub white_spaces : List (ℕ × ℕ)
white_spaces =
    (0x9, 0xD) ∷ (0x20, 0x20) ∷ (0x85, 0x85) ∷ (0xA0, 0xA0) ∷ (0x1680, 0x1680) ∷ (0x2000, 0x200A) ∷ (0x2028, 0x2028) ∷ (0x2029, 0x2029) ∷ (0x202F, 0x202F)
    ∷ (0x205F, 0x205F) ∷ (0x3000, 0x3000) ∷ []

-- u lies in one of the ranges
unfoldable pub within : List (ℕ × ℕ) → ℕ → Bool
within [] u = false
within (r ∷ rs) u = (leb r.0 u && leb u r.1) || within rs u
