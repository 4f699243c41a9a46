-- The reader's number in its order, the lent places and the path from both sides, and what a refusal leaves: by computation.
use mathlib.Core.Path.{◌≡◌, refl}
use mathlib.Core.Bool.{Bool, true, false}
use mathlib.Core.List.{List, [], ◌∷◌, ◌++◌}
use Prim.Native.Nat.{ℕ}
use Prim.Native.String.{String}
use lib.ListN.{replicate}
use Rattle.spec_base.specs.base.Ascii.{ascii}
use Rattle.spec_base.specs.base.Refusal.{◌or_else◌, fault_unless}
use Rattle.spec_text.specs.utf8.Utf8.{lead_len, second_low, second_high, tail, width_by, char_width, utf8_from, utf8}
use Rattle.spec_text.specs.pattern.Find.{starts, equals}
use Rattle.spec_text.specs.text.Number.{digit, digits, value_from}
use Rattle.spec_text.specs.unicode.Encode.{encode}
use Rattle.spec_time.specs.caption_time.Convert.{timescale_bad}
use Rattle.spec_map.specs.segment.Segment.{segments_of, flat_of, end_bad, segment_bad, any_bad, map_bad}
use Rattle.spec_json.specs.json.Space.{is_space, spaces, padded}
use Rattle.spec_json.specs.json.Str.{hex_digit, hex_word, short_escape, unicode_width, unicode_point, char_wide, char_bytes, chars_width, chars_bytes, string_width, string_bytes}
use Rattle.spec_json.specs.json.Num.{digit_run, int_width, frac_width, is_exp, exp_width, number_width, is_plain}
use Rattle.spec_json.specs.json.Value.{literal_width, scalar_width, key_width, member_width, row_width, row_items, value_width}
use Rattle.spec_json.specs.json.Member.{bare, elements_of, members_of, values_of, field_of}
use Rattle.spec_map_json.specs.map_json_write.Reads.{segment_said, segment_from, segments_said, segments_from, shallow, path_said, fields_said, is_map_text, map_said}
use Rattle.spec_map_json.specs.map_json_write.MapWritten.{when_done}
use Rattle.spec_map_json.specs.map_json_read.MapRead.{read_number, value_when_done}

-- a text with this timescale and these segments
abbrev text : (timescale segments : String) → List ℕ
text T xs = ascii "{\"video_timescale\":" ++ ascii T ++ ascii ",\"frame_rate_num\":2,\"frame_rate_den\":3,\"input\":\"a\",\"total_frames\":4,\"segments\":[" ++ ascii xs ++ ascii "]}"

-- 6,144 places and 1,024 bytes are enough, one less of either is 16
pub lent_rows : read_number (text "1" "") 6144 1024 ∷ read_number (text "1" "") 6143 1024 ∷ read_number (text "1" "") 6144 1023 ∷ [] ≡ 0 ∷ 16 ∷ 16 ∷ []
unfolding read_number ◌or_else◌ fault_unless timescale_bad map_bad any_bad segment_bad end_bad flat_of segments_of lead_len second_low second_high tail width_by char_width utf8_from utf8 starts equals digit digits value_from encode is_space spaces padded hex_digit hex_word short_escape unicode_width unicode_point char_wide char_bytes chars_width chars_bytes string_width string_bytes digit_run int_width frac_width is_exp exp_width number_width is_plain literal_width scalar_width key_width member_width row_width row_items value_width bare elements_of members_of values_of field_of segment_said segment_from segments_said segments_from shallow fields_said is_map_text map_said
lent_rows = refl

-- nothing is lent: 23 before 15, and 15 before 16, for T and for a segment that ends past 2^53
pub order_rows :
    read_number (text "0" ",") 0 0
    ∷ read_number (text "0" "") 0 0
    ∷ read_number (text "1000000001" "") 0 0
    ∷ read_number (text "1" "{\"source_start_frame\":1,\"source_end_frame\":2,\"source_start_dts\":9007199254740992,\"frame_count\":1,\"output_start\":0,\"duration\":1}") 0 0
    ∷ read_number (text "1" "{\"source_start_frame\":1,\"source_end_frame\":2,\"source_start_dts\":9007199254740991,\"frame_count\":1,\"output_start\":0,\"duration\":1}") 0 0
    ∷ []
    ≡ 23 ∷ 15 ∷ 15 ∷ 15 ∷ 16 ∷ []
unfolding read_number ◌or_else◌ fault_unless timescale_bad map_bad any_bad segment_bad end_bad flat_of segments_of lead_len second_low second_high tail width_by char_width utf8_from utf8 starts equals digit digits value_from encode is_space spaces padded hex_digit hex_word short_escape unicode_width unicode_point char_wide char_bytes chars_width chars_bytes string_width string_bytes digit_run int_width frac_width is_exp exp_width number_width is_plain literal_width scalar_width key_width member_width row_width row_items value_width bare elements_of members_of values_of field_of segment_said segment_from segments_said segments_from shallow fields_said is_map_text map_said
order_rows = refl

-- a path of 1,024 bytes and of 1,025; they are counted as they are read: `\u0061` is one byte
pub path_rows :
    path_said (0x22 ∷ replicate 1024 97 ++ 0x22 ∷ [])
    ∷ path_said (0x22 ∷ replicate 1025 97 ++ 0x22 ∷ [])
    ∷ path_said (0x22 ∷ replicate 1023 97 ++ ascii "\\u0061\"")
    ∷ path_said (0x22 ∷ replicate 1024 97 ++ ascii "\\u0061\"")
    ∷ []
    ≡ true ∷ false ∷ true ∷ false ∷ []
unfolding hex_digit hex_word short_escape unicode_width unicode_point char_wide char_bytes chars_width chars_bytes string_width string_bytes encode
path_rows = refl

-- a refusal writes no byte, and its values are 0
pub refused_rows : (when_done 0 (7 ∷ []) ≡ 7 ∷ []) × (when_done 16 (7 ∷ []) ≡ []) × (value_when_done 0 7 ∷ value_when_done 23 7 ∷ [] ≡ 7 ∷ 0 ∷ [])
refused_rows = (refl, refl, refl)
