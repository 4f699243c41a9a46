-- What a line asks for at every input: three bytes of output for each of its own, and four places (16). By computation.
use mathlib.Core.Path.{◌≡◌, refl}
use mathlib.Core.List.{[], ◌∷◌}
use Prim.Native.Nat.{ℕ}
use Rattle.spec_base.specs.base.Part.{last}
use Rattle.spec_text.specs.utf8.Utf8.{lead_len, second_low, second_high, tail, width_by, char_width, code_by, code_head}
use Rattle.spec_text.specs.whitespace.White.{white_high, white, white_head, ends_white, white_tail, head_from, keep_from, trim_head, trim_tail, trim}
use Rattle.spec_text.specs.pattern.Find.{equals}
use Rattle.spec_text.specs.text.Line.{text_of, terminator_length}
use Rattle.spec_caption.specs.caption_fate.Emit.{emit_by}
use Rattle.spec_caption.specs.caption_fate.Told.{part_in}
use Rattle.spec_ass.specs.ass_columns.Section.{bracketed, inside}
use Rattle.spec_ass.specs.ass_line.Line.{text_says, line_says}
use Rattle.spec_ass.specs.ass_line.AssThrough.{line_in, columns_next}
use Rattle.table.specs.Example.{setting}
use Rattle.table.specs.Table.{lf, outside, in_events}

-- a line of nine bytes: 27 bytes and four places, one byte less, one place less
abbrev answered : (room places : ℕ) → ℕ
answered room places = (line_in (setting 0) [] outside 0 (lf "[Events]") room places).number

room_rows : answered 27 4 ∷ answered 26 4 ∷ answered 27 3 ∷ [] ≡ 0 ∷ 16 ∷ 16 ∷ []
unfolding line_in line_says text_says text_of terminator_length bracketed inside equals trim trim_tail trim_head keep_from head_from white_tail ends_white last white_head white white_high code_head code_by char_width width_by lead_len second_low second_high tail part_in emit_by
room_rows = refl

-- refused, the columns stay
column_rows : (columns_next outside 0 (lf "[Events]") 27 4 ≡ in_events) × (columns_next outside 0 (lf "[Events]") 26 4 ≡ outside) × (columns_next outside 0 (lf "[Events]") 27 3 ≡ outside)
unfolding columns_next line_says text_says text_of terminator_length bracketed inside equals trim trim_tail trim_head keep_from head_from white_tail ends_white last white_head white white_high code_head code_by char_width width_by lead_len second_low second_high tail
column_rows = (refl, refl, refl)
