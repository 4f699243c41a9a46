-- Lines worked out by hand.
use mathlib.Core.Path.{◌≡◌, refl}
use mathlib.Core.List.{[], ◌∷◌, ◌++◌}
use Rattle.spec_base.specs.base.Ascii.{ascii}
use Rattle.spec_time.specs.caption_stamp.Write.{pad, width_under, width}
use Rattle.spec_json.specs.json.Quote.{decimal}
use Rattle.number_lines.specs.Line.{spaced, numbers_text, line_text, printed_length}

pub two_numbers : line_text (ascii "why") (0 ∷ 104 ∷ []) ≡ ascii "why 0 104" ++ (0x0A ∷ [])
unfolding line_text numbers_text spaced decimal pad width width_under
two_numbers = refl

pub no_number : line_text (ascii "held") [] ≡ ascii "held" ++ (0x0A ∷ [])
unfolding line_text numbers_text
no_number = refl

pub printed_length_lem : printed_length (ascii "row") (1 ∷ 90 ∷ []) ≡ 9
unfolding printed_length line_text numbers_text spaced decimal pad width width_under
printed_length_lem = refl
