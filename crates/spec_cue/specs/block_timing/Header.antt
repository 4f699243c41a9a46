-- WebVTT's first line: `WEBVTT`, and behind it nothing, or a space or a tab and any text.
use Rattle.std.specs.Prelude.{Bool, true, false, ◌&&◌, ◌||◌, List, [], ◌∷◌, ℕ, zero, suc, eqb, drop}
use Rattle.spec_text.specs.pattern.Find.{starts}
use Rattle.spec_text.specs.text.Line.{text_of}

-- `WEBVTT`
abbrev pub webvtt : List ℕ
webvtt = 87 ∷ 69 ∷ 66 ∷ 86 ∷ 84 ∷ 84 ∷ []

abbrev pub parts_word : List ℕ → Bool
parts_word [] = true
parts_word (b ∷ r) = eqb b 32 || eqb b 9

-- of a line with its terminator and without a BOM
unfoldable pub is_header : List ℕ → Bool
is_header l = starts webvtt (text_of l) && parts_word (drop 6 (text_of l))

-- a header is due: no line has ended and none is held
abbrev pub nothing_yet : (n : ℕ) → (block : List (List ℕ)) → Bool
nothing_yet zero [] = true
nothing_yet zero (l ∷ ls) = false
nothing_yet (suc n) b = false

unfoldable pub header_due : (kind n : ℕ) → (block : List (List ℕ)) → Bool
header_due kind n b = eqb kind 2 && nothing_yet n b
