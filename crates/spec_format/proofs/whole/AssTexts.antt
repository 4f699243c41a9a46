-- Worked examples of whole ASS texts, by computation.
use Prim.Native.Nat.{ℕ}
use Prim.Native.String.{String}
use mathlib.Core.Path.{◌≡◌, refl}
use mathlib.Core.Bool.{false}
use mathlib.Core.List.{List, [], ◌∷◌, ◌++◌}
use Rattle.spec_base.specs.base.Ascii.{ascii}
use Rattle.spec_base.specs.base.Part.{last}
use Rattle.spec_text.specs.utf8.Utf8.{lead_len, second_low, second_high, tail, width_by, char_width, code_by, code_head}
use Rattle.spec_text.specs.whitespace.White.{white_high, white, white_head, ends_white, white_tail, head_from, keep_from, trim_head, trim_tail, trim}
use Rattle.spec_text.specs.pattern.Find.{starts, equals, first, contains, up_to, past}
use Rattle.spec_text.specs.pattern.Piece.{pieces_from, pieces}
use Rattle.spec_text.specs.text.Number.{digit, digits, value_from, natural, unsigned, number}
use Rattle.spec_text.specs.text.Line.{lines_of, text_of, terminator_length, terminator_of}
use Rattle.spec_time.specs.caption_time.Kind.{kind_bad, units_of, mark_of}
use Rattle.spec_time.specs.caption_stamp.Read.{mark_in, time_with, time_in}
use Rattle.spec_caption.specs.caption_fate.Says.{bytes, start, stop, short, stays, passes, cue}
use Rattle.spec_caption.specs.caption_fate.Bom.{bom}
use Rattle.spec_ass.specs.ass_columns.Columns.{names_in, place_in, columns_in, fields, field_at}
use Rattle.spec_ass.specs.ass_columns.Section.{bracketed, inside}
use Rattle.spec_ass.specs.ass_write.Tags.{holds_any}
use Rattle.spec_ass.specs.ass_write.Frame.{piece_at, field_pieces}
use Rattle.spec_ass.specs.ass_line.Line.{caption_says, word_says, text_says, line_says}
use Rattle.spec_format.specs.whole.Ass.{lines_said, ass_said}

abbrev line : String → List ℕ
line s = ascii s ++ 10 ∷ []

-- a BOM stays; the columns stand until the next Format line, across a section that is not Events; lines count from 1; a last line needs no terminator
columns_stay : ass_said (bom ++ line "[Events]" ++ line "Format: Start, End, Text" ++ line "[Fonts]" ++ line "Dialogue: x" ++ line "[Events]" ++ line "Dialogue: 0:0:0.21,0:0:0.25,a,b" ++ ascii "Comment: x") ≡
    stays bom ∷ stays (line "[Events]") ∷ stays (line "Format: Start, End, Text") ∷ stays (line "[Fonts]") ∷ stays (line "Dialogue: x") ∷ stays (line "[Events]")
    ∷ cue (record { line = 6; start = 21; start_mark = 46; stop = 25; stop_mark = 46; tagged = false; stamped = false; frame = bytes (ascii "Dialogue:") ∷ start ∷ bytes (ascii ",") ∷ stop ∷ bytes (ascii ",") ∷ bytes (ascii "a,b") ∷ bytes (10 ∷ []) ∷ [] })
    ∷ passes short 7 (ascii "Comment: x") ∷ []
unfolding lead_len second_low second_high tail width_by char_width code_by code_head white_high white white_head last ends_white white_tail head_from keep_from trim_head trim_tail trim starts equals first contains up_to past pieces_from pieces digit digits value_from natural unsigned number lines_of text_of terminator_length terminator_of kind_bad units_of mark_of time_with mark_in time_in names_in place_in columns_in fields field_at holds_any bracketed inside piece_at field_pieces caption_says word_says text_says line_says lines_said ass_said
columns_stay = refl

-- a bad time ends the text
bad_time : ass_said (line "[Events]" ++ line "Format: Start, End" ++ line "Dialogue: 0:0:0.21,x" ++ line "later") ≡ stays (line "[Events]") ∷ stays (line "Format: Start, End") ∷ []
unfolding lead_len second_low second_high tail width_by char_width code_by code_head white_high white white_head last ends_white white_tail head_from keep_from trim_head trim_tail trim starts equals first contains up_to past pieces_from pieces digit digits value_from natural unsigned number lines_of text_of terminator_length terminator_of kind_bad units_of mark_of time_with mark_in time_in names_in place_in columns_in fields field_at holds_any bracketed inside piece_at field_pieces caption_says word_says text_says line_says lines_said ass_said
bad_time = refl
