-- UTF-8 as RFC 3629 defines it (section 4), on lists of bytes. A byte past the end of a list is read as 0, which is no continuation byte.
use Rattle.std.specs.Prelude.{ℕ, zero, suc, ◌+◌, ◌*◌, ◌%◌, Bool, true, false, List, [], ◌∷◌, get_or, ltb, eqb, cond}
use Rattle.spec_base.specs.base.Width.{by_width}

-- how many bytes a character has whose first byte is a; 0: no character begins so
unfoldable pub lead_len : ℕ → ℕ
lead_len a =
    cond (ltb a 0x80) 1
    (cond (ltb a 0xC2) 0
    (cond (ltb a 0xE0) 2
    (cond (ltb a 0xF0) 3
    (cond (ltb a 0xF5) 4
    0))))

-- the lowest second byte after a: E0 and F0 leave out the overlong forms
unfoldable pub second_low : ℕ → ℕ
second_low a = cond (eqb a 0xE0) 0xA0 (cond (eqb a 0xF0) 0x90 0x80)

-- the highest second byte after a: ED leaves out the surrogates, F4 what lies above U+10FFFF
unfoldable pub second_high : ℕ → ℕ
second_high a = cond (eqb a 0xED) 0x9F (cond (eqb a 0xF4) 0x8F 0xBF)

-- a continuation byte, 80 to BF
unfoldable pub tail : ℕ → Bool
tail b = cond (ltb b 0x80) false (ltb b 0xC0)

-- the width of the character that the bytes a b c d begin with, whose first byte announces n bytes; 0: none
unfoldable pub width_by : ℕ → ℕ → ℕ → ℕ → ℕ → ℕ
width_by n a b c d =
    cond (ltb n 2) n
    (cond (ltb b (second_low a)) 0
    (cond (ltb (second_high a) b) 0
    (cond (eqb n 2) 2
    (cond (tail c)
    (cond (eqb n 3) 3
    (cond (tail d) 4 0))
    0))))

-- the width of the character at the head of s; 0: s begins with none
unfoldable pub char_width : List ℕ → ℕ
char_width s = width_by (lead_len (get_or s 0 0)) (get_or s 0 0) (get_or s 1 0) (get_or s 2 0) (get_or s 3 0)

-- s, less its first k bytes, is a row of characters
unfoldable pub utf8_from : List ℕ → ℕ → Bool
utf8_from [] k = true
utf8_from (b ∷ r) (suc k) = utf8_from r k
utf8_from (b ∷ r) zero = by_width (char_width (b ∷ r)) false (λ k. utf8_from r k)

-- s is well-formed UTF-8
unfoldable pub utf8 : List ℕ → Bool
utf8 s = utf8_from s 0

-- the code point of a character of w bytes a b c d
unfoldable pub code_by : ℕ → ℕ → ℕ → ℕ → ℕ → ℕ
code_by w a b c d =
    cond (eqb w 1) a
    (cond (eqb w 2) (a % 32 * 64 + b % 64)
    (cond (eqb w 3) (a % 16 * 4096 + b % 64 * 64 + c % 64)
    (a % 8 * 262144 + b % 64 * 4096 + c % 64 * 64 + d % 64)))

-- the code point of the character at the head of s
unfoldable pub code_head : List ℕ → ℕ
code_head s = code_by (char_width s) (get_or s 0 0) (get_or s 1 0) (get_or s 2 0) (get_or s 3 0)

-- how many bytes below 80 s begins with (each is a character)
unfoldable pub ascii_run : List ℕ → ℕ
ascii_run [] = zero
ascii_run (b ∷ r) = cond (ltb b 0x80) (suc (ascii_run r)) zero
