-- The plain reader's checks by rows: 21 does not count a BOM, a rest is tested for 19 alone, WebVTT's first line, and where a BOM is written back. By computation.
use mathlib.Core.Path.{◌≡◌, refl}
use mathlib.Core.Bool.{true, false}
use mathlib.Core.List.{[], ◌∷◌, map}
use lib.ListN.{replicate}
use Rattle.spec_base.specs.base.Ascii.{ascii}
use Rattle.spec_base.specs.base.Refusal.{◌or_else◌, fault_unless}
use Rattle.spec_text.specs.utf8.Utf8.{lead_len, second_low, second_high, tail, width_by, char_width, utf8_from, utf8}
use Rattle.spec_text.specs.pattern.Find.{starts, equals}
use Rattle.promise.specs.Plain.{line_fault, body_line_fault, body_fault, headed, rest_fault, opened}

-- behind a BOM: lines of 4,000 and 96 bytes are a block, of 4,000 and 97 too long a one
pub block_rows : body_fault 3 0 (replicate 4000 97 ∷ replicate 96 97 ∷ []) ∷ body_fault 3 0 (replicate 4000 97 ∷ replicate 97 97 ∷ []) ∷ [] ≡ 0 ∷ 21 ∷ []
unfolding body_fault body_line_fault line_fault fault_unless ◌or_else◌ utf8 utf8_from char_width width_by lead_len second_low second_high tail
block_rows = refl

-- a rest that is not UTF-8; one of 4,096 bytes and of 4,097; behind a BOM and no line, of 4,093 and 4,094; none after a finish
pub rest_rows :
    rest_fault false 0 ((10 ∷ []) ∷ []) (255 ∷ [])
    ∷ rest_fault false 0 ((10 ∷ []) ∷ []) (replicate 4096 97)
    ∷ rest_fault false 0 ((10 ∷ []) ∷ []) (replicate 4097 97)
    ∷ rest_fault false 3 [] (255 ∷ [])
    ∷ rest_fault false 3 [] (replicate 4093 97)
    ∷ rest_fault false 3 [] (replicate 4094 97)
    ∷ rest_fault true 3 [] (replicate 4094 97)
    ∷ []
    ≡ 0 ∷ 0 ∷ 19 ∷ 0 ∷ 0 ∷ 19 ∷ 0 ∷ []
unfolding fault_unless
rest_rows = refl

pub head_rows : map headed (ascii "WEBVTT" ∷ ascii "WEBVTT x" ∷ ascii "WEBVTT\tx" ∷ ascii "WEBVTTx" ∷ ascii "WEBVTT\r" ∷ ascii "webvtt" ∷ ascii "WEBVT" ∷ [] ∷ [])
    ≡ true ∷ true ∷ true ∷ false ∷ false ∷ false ∷ false ∷ false ∷ []
unfolding headed starts equals
head_rows = refl

-- a BOM and no line: written back at a finish, but in WebVTT not
pub bom_rows : opened 0 true 3 [] ∷ opened 1 true 3 [] ∷ opened 2 true 3 [] ∷ opened 1 false 3 [] ∷ [] ≡ true ∷ true ∷ false ∷ false ∷ []
bom_rows = refl
