-- RFC 8259, section 7: strings, on the bytes of a text that is UTF-8.
--     string = quotation-mark *char quotation-mark
--     char = unescaped / escape ( %x22 / %x5C / %x2F / %x62 / %x66 / %x6E / %x72 / %x74 / %x75 4HEXDIG )
--     unescaped = %x20-21 / %x23-5B / %x5D-10FFFF
-- A surrogate stands only as a high one directly followed by a low one, both escaped; one alone is refused (document 02, 2.1).
use Rattle.std.specs.Prelude.{ℕ, zero, suc, ◌+◌, ◌*◌, ◌-◌, Bool, true, false, ◌&&◌, cond, List, [], ◌∷◌, ◌++◌, eqb, ltb, leb, get_or, take, drop}
use Rattle.spec_base.specs.base.Width.{by_width}
use Rattle.spec_text.specs.unicode.Encode.{encode}
use Rattle.spec_json.specs.json.Space.{more}

-- the value of a hexadecimal digit of either case; 16: none
unfoldable pub hex_digit : ℕ → ℕ
hex_digit b =
    cond (ltb b 0x30) 16
    (cond (leb b 0x39) (b - 0x30)
    (cond (ltb b 0x41) 16
    (cond (leb b 0x46) (b - 0x37)
    (cond (ltb b 0x61) 16
    (cond (leb b 0x66) (b - 0x57) 16)))))

-- the number that the four hexadecimal digits at the head of s write; 65536: they are none
abbrev pub hex_join : (a b c d : ℕ) → ℕ
hex_join a b c d =
    cond (ltb a 16) (cond (ltb b 16) (cond (ltb c 16) (cond (ltb d 16)
    (a * 4096 + b * 256 + c * 16 + d)
    65536) 65536) 65536) 65536

unfoldable pub hex_word : List ℕ → ℕ
hex_word s = hex_join (hex_digit (get_or s 0 0)) (hex_digit (get_or s 1 0)) (hex_digit (get_or s 2 0)) (hex_digit (get_or s 3 0))

abbrev pub is_high : ℕ → Bool
is_high u = leb 0xD800 u && ltb u 0xDC00

abbrev pub is_low : ℕ → Bool
is_low u = leb 0xDC00 u && ltb u 0xE000

-- the byte that a backslash and the letter e write; 0: none
unfoldable pub short_escape : ℕ → ℕ
short_escape e =
    cond (eqb e 0x22) 0x22 (cond (eqb e 0x5C) 0x5C (cond (eqb e 0x2F) 0x2F
    (cond (eqb e 0x62) 0x08 (cond (eqb e 0x66) 0x0C (cond (eqb e 0x6E) 0x0A
    (cond (eqb e 0x72) 0x0D (cond (eqb e 0x74) 0x09 0)))))))

-- s stands behind `\u`: a code unit that is no surrogate (6 bytes with the `\u`), or a pair (12)
abbrev pub pair_follows : List ℕ → Bool
pair_follows s = eqb (get_or s 4 0) 0x5C && (eqb (get_or s 5 0) 0x75 && is_low (hex_word (drop 6 s)))

unfoldable pub unicode_width : List ℕ → ℕ
unicode_width s =
    cond (ltb (hex_word s) 65536)
    (cond (is_high (hex_word s))
    (cond (pair_follows s) 12 0)
    (cond (is_low (hex_word s)) 0 6))
    0

-- the code point that it writes
unfoldable pub unicode_point : List ℕ → ℕ
unicode_point s = cond (is_high (hex_word s)) (0x10000 + (hex_word s - 0xD800) * 1024 + (hex_word (drop 6 s) - 0xDC00)) (hex_word s)

-- s stands behind a backslash: the width with it, and the bytes that it stands for
abbrev pub escape_width : List ℕ → ℕ
escape_width s = cond (eqb (get_or s 0 0) 0x75) (unicode_width (drop 1 s)) (cond (eqb (short_escape (get_or s 0 0)) 0) 0 2)

abbrev pub escape_bytes : List ℕ → List ℕ
escape_bytes s = cond (eqb (get_or s 0 0) 0x75) (encode (unicode_point (drop 1 s))) (short_escape (get_or s 0 0) ∷ [])

-- the width of the character of a string at the head of s, and the bytes that it stands for; 0: none
unfoldable pub char_wide : List ℕ → ℕ
char_wide s =
    cond (ltb (get_or s 0 0) 0x20) 0
    (cond (eqb (get_or s 0 0) 0x22) 0
    (cond (eqb (get_or s 0 0) 0x5C) (escape_width (drop 1 s)) 1))

unfoldable pub char_bytes : List ℕ → List ℕ
char_bytes s = cond (eqb (get_or s 0 0) 0x5C) (escape_bytes (drop 1 s)) (take 1 s)

-- s less its first k bytes is characters up to a quotation mark: their width with it, and the bytes that they stand for
unfoldable pub chars_width : List ℕ → (k : ℕ) → ℕ
chars_width [] k = 0
chars_width (b ∷ s) (suc k) = more (chars_width s k)
chars_width (b ∷ s) zero = elim (eqb b 0x22) [ true ↦ 1 | false ↦ by_width (char_wide (b ∷ s)) 0 (λ k. more (chars_width s k)) ]

unfoldable pub chars_bytes : List ℕ → (k : ℕ) → List ℕ
chars_bytes [] k = []
chars_bytes (b ∷ s) (suc k) = chars_bytes s k
chars_bytes (b ∷ s) zero = elim (eqb b 0x22) [ true ↦ [] | false ↦ by_width (char_wide (b ∷ s)) [] (λ k. char_bytes (b ∷ s) ++ chars_bytes s k) ]

-- the width of the string at the head of s, and the bytes that it stands for
unfoldable pub string_width : List ℕ → ℕ
string_width s = cond (eqb (get_or s 0 0) 0x22) (more (chars_width (drop 1 s) 0)) 0

unfoldable pub string_bytes : List ℕ → List ℕ
string_bytes s = chars_bytes (drop 1 s) 0
