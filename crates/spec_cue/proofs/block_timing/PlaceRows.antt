-- Where the timing line stands: the first line with an arrow, by its first byte, its length and the lines before it. By computation.
use mathlib.Core.Path.{◌≡◌, refl}
use mathlib.Core.List.{List, [], ◌∷◌}
use Rattle.std.specs.Prelude.{None}
use Rattle.spec_base.specs.base.Ascii.{ascii}
use Rattle.spec_text.specs.pattern.Find.{starts, first, contains}
use Rattle.spec_text.specs.text.Line.{lines_of, text_of, terminator_length}
use Rattle.spec_cue.specs.block_timing.Place.{somewhere, timing_place}

pub place_rows : (timing_place (lines_of (ascii "7\na --> b\nc --> d\n")) 0 0 ≡ somewhere 2 8 1)
    × (timing_place (lines_of (ascii "7\na --> b\nc --> d\n")) 10 3 ≡ somewhere 12 8 4)
    × (timing_place (lines_of (ascii "-->")) 0 0 ≡ somewhere 0 3 0)
    × (timing_place (lines_of (ascii "7\na -- > b\n")) 0 0 ≡ None)
unfolding timing_place lines_of text_of terminator_length contains first starts
place_rows = (refl, refl, refl, refl)
