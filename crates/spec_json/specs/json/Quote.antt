-- What is written: a string with the escapes of serde_json, and a number in decimal digits.
use Rattle.std.specs.Prelude.{ℕ, ◌+◌, ◌/◌, ◌%◌, cond, List, [], ◌∷◌, ◌++◌, eqb, ltb}
use Rattle.spec_time.specs.caption_stamp.Write.{pad, width}

-- ---- strings: `\" \\ \b \t \n \f \r`, other bytes below 20 as `\u00xx` in lower case, all others as they are
unfoldable pub hex_letter : ℕ → ℕ
hex_letter n = cond (ltb n 10) (0x30 + n) (0x57 + n)

unfoldable pub escaped : ℕ → List ℕ
escaped b =
    cond (eqb b 0x22) (0x5C ∷ 0x22 ∷ []) (cond (eqb b 0x5C) (0x5C ∷ 0x5C ∷ [])
    (cond (ltb b 0x20)
    (cond (eqb b 0x08) (0x5C ∷ 0x62 ∷ []) (cond (eqb b 0x09) (0x5C ∷ 0x74 ∷ []) (cond (eqb b 0x0A) (0x5C ∷ 0x6E ∷ [])
    (cond (eqb b 0x0C) (0x5C ∷ 0x66 ∷ []) (cond (eqb b 0x0D) (0x5C ∷ 0x72 ∷ [])
    (0x5C ∷ 0x75 ∷ 0x30 ∷ 0x30 ∷ hex_letter (b / 16) ∷ hex_letter (b % 16) ∷ []))))))
    (b ∷ [])))

unfoldable pub escaped_all : List ℕ → List ℕ
escaped_all [] = []
escaped_all (b ∷ s) = escaped b ++ escaped_all s

unfoldable pub quoted : List ℕ → List ℕ
quoted s = 0x22 ∷ escaped_all s ++ (0x22 ∷ [])

-- ---- numbers: decimal digits, no zero before another
unfoldable pub decimal : ℕ → List ℕ
decimal n = pad (width n) n
