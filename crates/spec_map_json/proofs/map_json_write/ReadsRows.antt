-- Lists of segments, and how deep an unknown value may be: by computation.
use mathlib.Core.Path.{◌≡◌, refl}
use mathlib.Core.Bool.{true, false}
use mathlib.Core.List.{List, [], ◌∷◌}
use Prim.Native.Nat.{ℕ}
use Rattle.spec_base.specs.base.Ascii.{ascii}
use Rattle.spec_text.specs.utf8.Utf8.{lead_len, second_low, second_high, tail, width_by, char_width}
use Rattle.spec_text.specs.pattern.Find.{starts, equals}
use Rattle.spec_text.specs.text.Number.{digit, digits}
use Rattle.spec_json.specs.json.Space.{is_space, spaces, padded}
use Rattle.spec_json.specs.json.Str.{hex_digit, hex_word, short_escape, unicode_width, char_wide, chars_width, string_width}
use Rattle.spec_json.specs.json.Num.{digit_run, int_width, frac_width, is_exp, exp_width, number_width}
use Rattle.spec_json.specs.json.Value.{literal_width, scalar_width, key_width, member_width, row_width, row_items, value_width}
use Rattle.spec_json.specs.json.Member.{Member}
use Rattle.spec_map_json.specs.map_json_write.Reads.{segment_said, segments_said, shallow}

abbrev unknown : List ℕ → List Member
unknown v = record { name = ascii "x"; value = v } ∷ []

-- no segment; one that is a number, at the start of the list and behind none
segments_rows : segments_said [] ∷ segments_said (ascii "1" ∷ []) ∷ segments_said (ascii "1" ∷ ascii "2" ∷ []) ∷ [] ≡ true ∷ false ∷ false ∷ []
unfolding segments_said segment_said
segments_rows = refl

-- an unknown value 8 deep, and 9 deep
depth_rows : shallow (unknown (ascii "[[[[[[[[]]]]]]]]")) ∷ shallow (unknown (ascii "[[[[[[[[[]]]]]]]]]")) ∷ [] ≡ true ∷ false ∷ []
unfolding lead_len second_low second_high tail width_by char_width starts equals digit digits is_space spaces padded hex_digit hex_word short_escape unicode_width char_wide chars_width string_width digit_run int_width frac_width is_exp exp_width number_width literal_width scalar_width key_width member_width row_width row_items value_width shallow
depth_rows = refl
