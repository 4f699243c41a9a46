-- How RFC 3629 (section 3) writes a code point in UTF-8, the Unicode scalar values, and a row of them stripped of White_Space.
use Rattle.std.specs.Prelude.{ℕ, ◌+◌, ◌/◌, ◌%◌, ◌<◌, ◌≤◌, List, [], ◌∷◌, ◌++◌, ltb, cond}
use Rattle.spec_text.specs.unicode.WhiteSpace.{white_spaces, within}

unfoldable pub encode : ℕ → List ℕ
encode u =
    cond (ltb u 0x80) (u ∷ [])
    (cond (ltb u 0x800) ((0xC0 + u / 64) ∷ (0x80 + u % 64) ∷ [])
    (cond (ltb u 0x10000) ((0xE0 + u / 4096) ∷ (0x80 + u / 64 % 64) ∷ (0x80 + u % 64) ∷ [])
    ((0xF0 + u / 262144) ∷ (0x80 + u / 4096 % 64) ∷ (0x80 + u / 64 % 64) ∷ (0x80 + u % 64) ∷ [])))

-- below 110000, and no surrogate
pub record Scalar (u : ℕ) : Type 0 where
  pub below : u < 0x110000
  pub plain : 0xD800 ≤ u → u < 0xE000 → ⊥

pub data Scalars : List ℕ → Type 0 where
  none : Scalars []
  more : {u : ℕ} {us : List ℕ} → Scalar u → Scalars us → Scalars (u ∷ us)

-- the text of a row of code points
unfoldable pub encode_all : List ℕ → List ℕ
encode_all [] = []
encode_all (u ∷ us) = encode u ++ encode_all us

-- a row of code points without the white space at its head, and without that at its end
unfoldable pub strip_head : List ℕ → List ℕ
strip_head [] = []
strip_head (u ∷ us) = cond (within white_spaces u) (strip_head us) (u ∷ us)

-- u before what is left of the rest: gone with it where nothing is left and u is white space
unfoldable pub if_left : ℕ → List ℕ → List ℕ
if_left u [] = cond (within white_spaces u) [] (u ∷ [])
if_left u (v ∷ vs) = u ∷ v ∷ vs

unfoldable pub strip_tail : List ℕ → List ℕ
strip_tail [] = []
strip_tail (u ∷ us) = if_left u (strip_tail us)
