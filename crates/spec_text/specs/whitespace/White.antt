-- Unicode White_Space, and a text stripped of it at both ends.
use Rattle.std.specs.Prelude.{ℕ, zero, suc, Bool, true, false, List, [], ◌∷◌, length, take, ltb, leb, eqb, cond}
use Rattle.spec_base.specs.base.Width.{by_width}
use Rattle.spec_base.specs.base.Part.{last}
use Rattle.spec_text.specs.utf8.Utf8.{char_width, code_head}

-- the code points with the property White_Space above U+2000: 2000 to 200A, 2028, 2029, 202F, 205F, 3000
unfoldable pub white_high : ℕ → Bool
white_high u =
    cond (ltb u 0x2000) false
    (cond (leb u 0x200A) true
    (cond (eqb u 0x2028) true
    (cond (eqb u 0x2029) true
    (cond (eqb u 0x202F) true
    (cond (eqb u 0x205F) true
    (eqb u 0x3000))))))

-- the code points with the property White_Space: 9 to D, 20, 85, A0, 1680 and those above
unfoldable pub white : ℕ → Bool
white u =
    cond (ltb u 0x9) false
    (cond (leb u 0xD) true
    (cond (eqb u 0x20) true
    (cond (eqb u 0x85) true
    (cond (eqb u 0xA0) true
    (cond (eqb u 0x1680) true
    (white_high u))))))

-- the width of the white-space character at the head of s; 0: s begins with none
unfoldable pub white_head : List ℕ → ℕ
white_head s = cond (white (code_head s)) (char_width s) 0

-- the last k bytes of s are a white-space character
unfoldable pub ends_white : List ℕ → ℕ → Bool
ends_white s k = eqb (white_head (last s k)) k

-- the width of the white-space character that s ends with; 0: it ends with none. (No white-space character has four bytes.)
unfoldable pub white_tail : List ℕ → ℕ
white_tail s = cond (ends_white s 1) 1 (cond (ends_white s 2) 2 (cond (ends_white s 3) 3 0))

-- s, less its first k bytes, with the white space at its head taken off
unfoldable pub head_from : List ℕ → ℕ → List ℕ
head_from [] k = []
head_from (b ∷ r) (suc k) = head_from r k
head_from (b ∷ r) zero = by_width (white_head (b ∷ r)) (b ∷ r) (λ k. head_from r k)

-- how many bytes are left of the first n bytes of s, less the last k of these, with the white space at their end taken off
unfoldable pub keep_from : List ℕ → ℕ → ℕ → ℕ
keep_from s zero k = 0
keep_from s (suc n) (suc k) = keep_from s n k
keep_from s (suc n) zero = by_width (white_tail (take (suc n) s)) (suc n) (λ k. keep_from s n k)

unfoldable pub trim_head : List ℕ → List ℕ
trim_head s = head_from s 0

unfoldable pub trim_tail : List ℕ → List ℕ
trim_tail s = take (keep_from s (length s) 0) s

-- s stripped of white space at both ends
unfoldable pub trim : List ℕ → List ℕ
trim s = trim_tail (trim_head s)
