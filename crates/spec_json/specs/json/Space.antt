-- RFC 8259, section 2: white space. A width of 0 says that nothing of the wanted form stands at the head of the text.
--     ws = *( %x20 / %x09 / %x0A / %x0D )
use Rattle.std.specs.Prelude.{ℕ, zero, suc, ◌+◌, Bool, ◌||◌, cond, List, [], ◌∷◌, eqb, drop}
use Rattle.spec_base.specs.base.Width.{by_width}

unfoldable pub is_space : ℕ → Bool
is_space b = eqb b 0x20 || (eqb b 0x09 || (eqb b 0x0A || eqb b 0x0D))

-- how many bytes of white space s begins with
unfoldable pub spaces : List ℕ → ℕ
spaces [] = 0
spaces (b ∷ s) = cond (is_space b) (suc (spaces s)) 0

-- one more than a width, and a sum of widths, where the last is none: 0
abbrev pub more : ℕ → ℕ
more zero = 0
more (suc n) = suc (suc n)

abbrev pub joined : ℕ → ℕ → ℕ
joined a zero = 0
joined a (suc b) = a + suc b

-- the width of white space, an item and white space
unfoldable pub padded : (item : List ℕ → ℕ) → List ℕ → ℕ
padded item s = by_width (item (drop (spaces s) s)) 0 (λ k. spaces s + suc k + spaces (drop (spaces s + suc k) s))
