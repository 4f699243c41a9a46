-- WebVTT's first line, and when it is due: by computation.
use mathlib.Core.Path.{◌≡◌, refl}
use mathlib.Core.Bool.{Bool, true, false}
use mathlib.Core.List.{List, [], ◌∷◌, map}
use Rattle.spec_base.specs.base.Ascii.{ascii}
use Rattle.spec_text.specs.pattern.Find.{starts}
use Rattle.spec_text.specs.text.Line.{text_of, terminator_length}
use Rattle.spec_cue.specs.block_timing.Header.{is_header, header_due}

-- the word alone, with LF, with CR LF, with a space, with a tab
pub header_rows : map is_header (ascii "WEBVTT" ∷ ascii "WEBVTT\n" ∷ ascii "WEBVTT\r\n" ∷ ascii "WEBVTT x\n" ∷ ascii "WEBVTT\tx\n" ∷ []) ≡ true ∷ true ∷ true ∷ true ∷ true ∷ []
unfolding is_header starts text_of terminator_length
header_rows = refl

-- another byte behind it, a lone CR, a space before it, small letters, a letter too few, nothing
pub other_rows :
    map is_header (ascii "WEBVTTx\n" ∷ ascii "WEBVTT\r" ∷ ascii "WEBVTT\r\r\n" ∷ ascii " WEBVTT\n" ∷ ascii "webvtt\n" ∷ ascii "WEBVT\n" ∷ [] ∷ [])
    ≡ false ∷ false ∷ false ∷ false ∷ false ∷ false ∷ false ∷ []
unfolding is_header starts text_of terminator_length
other_rows = refl

-- in WebVTT alone, before the first line
pub due_rows : header_due 2 0 [] ∷ header_due 1 0 [] ∷ header_due 0 0 [] ∷ header_due 2 1 [] ∷ header_due 2 0 ((97 ∷ []) ∷ []) ∷ [] ≡ true ∷ false ∷ false ∷ false ∷ false ∷ []
unfolding header_due
due_rows = refl
