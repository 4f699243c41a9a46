-- Texts of maps as JSON, taken and refused, and one written and read: by computation.
use mathlib.Core.Path.{◌≡◌, refl}
use mathlib.Core.Bool.{Bool, true, false, ◌&&◌}
use mathlib.Core.List.{List, [], ◌∷◌}
use Prim.Native.Nat.{ℕ}
use Prim.Native.String.{String}
use Rattle.spec_base.specs.base.Ascii.{ascii}
use Rattle.spec_text.specs.utf8.Utf8.{lead_len, second_low, second_high, tail, width_by, char_width, utf8_from, utf8}
use Rattle.spec_text.specs.pattern.Find.{starts, equals}
use Rattle.spec_text.specs.text.Number.{digit, digits, value_from}
use Rattle.spec_text.specs.unicode.Encode.{encode}
use Rattle.spec_time.specs.caption_stamp.Write.{pad, width_under, width}
use Rattle.spec_map.specs.segment.Segment.{segments_of, flat_of}
use Rattle.spec_json.specs.json.Space.{is_space, spaces, padded}
use Rattle.spec_json.specs.json.Str.{hex_digit, hex_word, short_escape, unicode_width, unicode_point, char_wide, char_bytes, chars_width, chars_bytes, string_width, string_bytes}
use Rattle.spec_json.specs.json.Num.{digit_run, int_width, frac_width, is_exp, exp_width, number_width, is_plain}
use Rattle.spec_json.specs.json.Value.{literal_width, scalar_width, key_width, member_width, row_width, row_items, value_width}
use Rattle.spec_json.specs.json.Member.{bare, elements_of, members_of, values_of, field_of}
use Rattle.spec_json.specs.json.Quote.{hex_letter, escaped, escaped_all, quoted, decimal}
use Rattle.spec_json.specs.json.Pretty.{item_lines, pretty_object, pretty_array}
use Rattle.spec_map_json.specs.map_json_write.Text.{segment_text, map_text}
use Rattle.spec_map_json.specs.map_json_write.Reads.{segment_said, segment_from, segments_said, segments_from, shallow, fields_said, is_map_text, map_said}

good : String → Bool
good t = is_map_text (ascii t)

same : Bool → Bool → Bool
same true b = b
same false true = false
same false false = true

-- every text of a list, tested
every : Bool → List String → Bool
every b [] = true
every b (t ∷ ts) = same b (good t) && every b ts

-- compact, no segments; pretty white space of all four kinds; fields in reverse order; known field by escape alone; duplicate unknown fields; unknown field before and in a segment; unknown value 8 deep; unknown value 8 deep in a segment
taken_1 : every true (
    "{\"video_timescale\":1,\"frame_rate_num\":2,\"frame_rate_den\":3,\"input\":\"a\",\"total_frames\":4,\"segments\":[]}" ∷
    "{\"video_timescale\" :\t1,\r\n \"frame_rate_num\" :\t2,\r\n \"frame_rate_den\" :\t3,\r\n \"input\" :\t\"a\",\r\n \"total_frames\" :\t4,\r\n \"segments\" :\t[]} \n\t\r" ∷
    "{\"segments\":[],\"total_frames\":4,\"input\":\"a\",\"frame_rate_den\":3,\"frame_rate_num\":2,\"video_timescale\":1}" ∷
    "{\"video_timescale\":1,\"frame_rate_num\":2,\"frame_rate_den\":3,\"\\u0069nput\":\"a\",\"total_frames\":4,\"segments\":[]}" ∷
    "{\"video_timescale\":1,\"frame_rate_num\":2,\"frame_rate_den\":3,\"input\":\"a\",\"total_frames\":4,\"segments\":[],\"x\":1,\"x\":2}" ∷
    "{\"video_timescale\":1,\"frame_rate_num\":2,\"frame_rate_den\":3,\"input\":\"a\",\"total_frames\":4,\"segments\":[{\"source_start_frame\":1,\"source_end_frame\":2,\"source_start_dts\":3,\"frame_count\":4,\"output_start\":5,\"duration\":6,\"note\":{\"a\":[1,2]}}],\"version\":2}" ∷
    "{\"video_timescale\":1,\"frame_rate_num\":2,\"frame_rate_den\":3,\"input\":\"a\",\"total_frames\":4,\"segments\":[],\"x\":[[[[[[[[]]]]]]]]}" ∷
    "{\"video_timescale\":1,\"frame_rate_num\":2,\"frame_rate_den\":3,\"input\":\"a\",\"total_frames\":4,\"segments\":[{\"source_start_frame\":1,\"source_end_frame\":2,\"source_start_dts\":3,\"frame_count\":4,\"output_start\":5,\"duration\":6,\"x\":{\"a\":{\"a\":{\"a\":{\"a\":{\"a\":{\"a\":{\"a\":{}}}}}}}}}]}" ∷ []) ≡ true
unfolding every same good lead_len second_low second_high tail width_by char_width utf8_from utf8 starts equals digit digits value_from encode is_space spaces padded hex_digit hex_word short_escape unicode_width unicode_point char_wide char_bytes chars_width chars_bytes string_width string_bytes digit_run int_width frac_width is_exp exp_width number_width is_plain literal_width scalar_width key_width member_width row_width row_items value_width bare elements_of members_of values_of field_of segment_said segment_from segments_said segments_from shallow fields_said is_map_text map_said
taken_1 = refl

-- surrogate pair; 0 as a number; 2^32 - 1 in 32 bits; 2^64 - 1 in 64 bits (15 here); path with NUL and all short escapes; raw DEL in a string; unknown literals and numbers; empty name
taken_2 : every true (
    "{\"video_timescale\":1,\"frame_rate_num\":2,\"frame_rate_den\":3,\"input\":\"\\uD83D\\ude00\",\"total_frames\":4,\"segments\":[]}" ∷
    "{\"video_timescale\":1,\"frame_rate_num\":0,\"frame_rate_den\":3,\"input\":\"a\",\"total_frames\":4,\"segments\":[]}" ∷
    "{\"video_timescale\":1,\"frame_rate_num\":4294967295,\"frame_rate_den\":3,\"input\":\"a\",\"total_frames\":4,\"segments\":[]}" ∷
    "{\"video_timescale\":1,\"frame_rate_num\":2,\"frame_rate_den\":3,\"input\":\"a\",\"total_frames\":4,\"segments\":[{\"source_start_frame\":1,\"source_end_frame\":2,\"source_start_dts\":3,\"frame_count\":4,\"output_start\":5,\"duration\":18446744073709551615}]}" ∷
    "{\"video_timescale\":1,\"frame_rate_num\":2,\"frame_rate_den\":3,\"input\":\"\\u0000\\\"\\\\\\/\\b\\f\\n\\r\\t\",\"total_frames\":4,\"segments\":[]}" ∷
    "{\"video_timescale\":1,\"frame_rate_num\":2,\"frame_rate_den\":3,\"input\":\"a\u{7f}b\",\"total_frames\":4,\"segments\":[]}" ∷
    "{\"video_timescale\":1,\"frame_rate_num\":2,\"frame_rate_den\":3,\"input\":\"a\",\"total_frames\":4,\"segments\":[],\"a\":true,\"b\":false,\"c\":null,\"d\":-0,\"e\":1.5e+3,\"f\":-12.0E-7,\"g\":1E999}" ∷
    "{\"video_timescale\":1,\"frame_rate_num\":2,\"frame_rate_den\":3,\"input\":\"a\",\"total_frames\":4,\"segments\":[],\"\":1}" ∷ []) ≡ true
unfolding every same good lead_len second_low second_high tail width_by char_width utf8_from utf8 starts equals digit digits value_from encode is_space spaces padded hex_digit hex_word short_escape unicode_width unicode_point char_wide char_bytes chars_width chars_bytes string_width string_bytes digit_run int_width frac_width is_exp exp_width number_width is_plain literal_width scalar_width key_width member_width row_width row_items value_width bare elements_of members_of values_of field_of segment_said segment_from segments_said segments_from shallow fields_said is_map_text map_said
taken_2 = refl

-- timescale 0 (15 here); timescale 10^9 + 1 (15 here); a number of 30 digits, skipped
taken_3 : every true (
    "{\"video_timescale\":0,\"frame_rate_num\":2,\"frame_rate_den\":3,\"input\":\"a\",\"total_frames\":4,\"segments\":[]}" ∷
    "{\"video_timescale\":1000000001,\"frame_rate_num\":2,\"frame_rate_den\":3,\"input\":\"a\",\"total_frames\":4,\"segments\":[]}" ∷
    "{\"video_timescale\":1,\"frame_rate_num\":2,\"frame_rate_den\":3,\"input\":\"a\",\"total_frames\":4,\"segments\":[],\"a\":123456789012345678901234567890}" ∷ []) ≡ true
unfolding every same good lead_len second_low second_high tail width_by char_width utf8_from utf8 starts equals digit digits value_from encode is_space spaces padded hex_digit hex_word short_escape unicode_width unicode_point char_wide char_bytes chars_width chars_bytes string_width string_bytes digit_run int_width frac_width is_exp exp_width number_width is_plain literal_width scalar_width key_width member_width row_width row_items value_width bare elements_of members_of values_of field_of segment_said segment_from segments_said segments_from shallow fields_said is_map_text map_said
taken_3 = refl

-- duplicate known field, same value; duplicate known field by escape; duplicate in a segment; duplicate in a segment by escape; missing field; missing field in a segment; trailing data; trailing comma in the object
refused_4 : every false (
    "{\"video_timescale\":1,\"frame_rate_num\":2,\"frame_rate_den\":3,\"input\":\"a\",\"total_frames\":4,\"segments\":[],\"input\":\"a\"}" ∷
    "{\"video_timescale\":1,\"frame_rate_num\":2,\"frame_rate_den\":3,\"input\":\"a\",\"total_frames\":4,\"segments\":[],\"inp\\u0075t\":\"a\"}" ∷
    "{\"video_timescale\":1,\"frame_rate_num\":2,\"frame_rate_den\":3,\"input\":\"a\",\"total_frames\":4,\"segments\":[{\"source_start_frame\":1,\"source_end_frame\":2,\"source_start_dts\":3,\"frame_count\":4,\"output_start\":5,\"duration\":6,\"duration\":6}]}" ∷
    "{\"video_timescale\":1,\"frame_rate_num\":2,\"frame_rate_den\":3,\"input\":\"a\",\"total_frames\":4,\"segments\":[{\"source_start_frame\":1,\"source_end_frame\":2,\"source_start_dts\":3,\"frame_count\":4,\"output_start\":5,\"duration\":6,\"d\\u0075ration\":6}]}" ∷
    "{\"video_timescale\":1,\"frame_rate_num\":2,\"frame_rate_den\":3,\"input\":\"a\",\"segments\":[]}" ∷
    "{\"video_timescale\":1,\"frame_rate_num\":2,\"frame_rate_den\":3,\"input\":\"a\",\"total_frames\":4,\"segments\":[{\"source_start_frame\":1,\"source_end_frame\":2,\"source_start_dts\":3,\"frame_count\":4,\"output_start\":5,\"durationx\":6}]}" ∷
    "{\"video_timescale\":1,\"frame_rate_num\":2,\"frame_rate_den\":3,\"input\":\"a\",\"total_frames\":4,\"segments\":[]}x" ∷
    "{\"video_timescale\":1,\"frame_rate_num\":2,\"frame_rate_den\":3,\"input\":\"a\",\"total_frames\":4,\"segments\":[],}" ∷ []) ≡ true
unfolding every same good lead_len second_low second_high tail width_by char_width utf8_from utf8 starts equals digit digits value_from encode is_space spaces padded hex_digit hex_word short_escape unicode_width unicode_point char_wide char_bytes chars_width chars_bytes string_width string_bytes digit_run int_width frac_width is_exp exp_width number_width is_plain literal_width scalar_width key_width member_width row_width row_items value_width bare elements_of members_of values_of field_of segment_said segment_from segments_said segments_from shallow fields_said is_map_text map_said
refused_4 = refl

-- trailing comma in the array; form feed as white space; empty text; white space alone; null; unknown value 9 deep; unknown value 9 deep in a segment; lone high surrogate in the path
refused_5 : every false (
    "{\"video_timescale\":1,\"frame_rate_num\":2,\"frame_rate_den\":3,\"input\":\"a\",\"total_frames\":4,\"segments\":[{\"source_start_frame\":1,\"source_end_frame\":2,\"source_start_dts\":3,\"frame_count\":4,\"output_start\":5,\"duration\":6},]}" ∷
    "\u{c}{\"video_timescale\":1,\"frame_rate_num\":2,\"frame_rate_den\":3,\"input\":\"a\",\"total_frames\":4,\"segments\":[]}" ∷
    "" ∷
    " \n" ∷
    "null" ∷
    "{\"video_timescale\":1,\"frame_rate_num\":2,\"frame_rate_den\":3,\"input\":\"a\",\"total_frames\":4,\"segments\":[],\"x\":[[[[[[[[[]]]]]]]]]}" ∷
    "{\"video_timescale\":1,\"frame_rate_num\":2,\"frame_rate_den\":3,\"input\":\"a\",\"total_frames\":4,\"segments\":[{\"source_start_frame\":1,\"source_end_frame\":2,\"source_start_dts\":3,\"frame_count\":4,\"output_start\":5,\"duration\":6,\"x\":{\"a\":{\"a\":{\"a\":{\"a\":{\"a\":{\"a\":{\"a\":{\"a\":{}}}}}}}}}}]}" ∷
    "{\"video_timescale\":1,\"frame_rate_num\":2,\"frame_rate_den\":3,\"input\":\"\\ud800\",\"total_frames\":4,\"segments\":[]}" ∷ []) ≡ true
unfolding every same good lead_len second_low second_high tail width_by char_width utf8_from utf8 starts equals digit digits value_from encode is_space spaces padded hex_digit hex_word short_escape unicode_width unicode_point char_wide char_bytes chars_width chars_bytes string_width string_bytes digit_run int_width frac_width is_exp exp_width number_width is_plain literal_width scalar_width key_width member_width row_width row_items value_width bare elements_of members_of values_of field_of segment_said segment_from segments_said segments_from shallow fields_said is_map_text map_said
refused_5 = refl

-- lone low surrogate in the path; high surrogate before a letter; low surrogate first; lone surrogate in a skipped string; lone surrogate in an unknown name; 1e0 as a number; 1.0 as a number; -0 as a number
refused_6 : every false (
    "{\"video_timescale\":1,\"frame_rate_num\":2,\"frame_rate_den\":3,\"input\":\"\\udc00\",\"total_frames\":4,\"segments\":[]}" ∷
    "{\"video_timescale\":1,\"frame_rate_num\":2,\"frame_rate_den\":3,\"input\":\"\\ud800a\",\"total_frames\":4,\"segments\":[]}" ∷
    "{\"video_timescale\":1,\"frame_rate_num\":2,\"frame_rate_den\":3,\"input\":\"\\udc00\\ud800\",\"total_frames\":4,\"segments\":[]}" ∷
    "{\"video_timescale\":1,\"frame_rate_num\":2,\"frame_rate_den\":3,\"input\":\"a\",\"total_frames\":4,\"segments\":[],\"x\":\"\\ud800\"}" ∷
    "{\"video_timescale\":1,\"frame_rate_num\":2,\"frame_rate_den\":3,\"input\":\"a\",\"total_frames\":4,\"segments\":[],\"\\ud800\":1}" ∷
    "{\"video_timescale\":1e0,\"frame_rate_num\":2,\"frame_rate_den\":3,\"input\":\"a\",\"total_frames\":4,\"segments\":[]}" ∷
    "{\"video_timescale\":1.0,\"frame_rate_num\":2,\"frame_rate_den\":3,\"input\":\"a\",\"total_frames\":4,\"segments\":[]}" ∷
    "{\"video_timescale\":1,\"frame_rate_num\":-0,\"frame_rate_den\":3,\"input\":\"a\",\"total_frames\":4,\"segments\":[]}" ∷ []) ≡ true
unfolding every same good lead_len second_low second_high tail width_by char_width utf8_from utf8 starts equals digit digits value_from encode is_space spaces padded hex_digit hex_word short_escape unicode_width unicode_point char_wide char_bytes chars_width chars_bytes string_width string_bytes digit_run int_width frac_width is_exp exp_width number_width is_plain literal_width scalar_width key_width member_width row_width row_items value_width bare elements_of members_of values_of field_of segment_said segment_from segments_said segments_from shallow fields_said is_map_text map_said
refused_6 = refl

-- -1 as a number; +1 as a number; 01 as a number; 2^32 in 32 bits; 2^64 in 64 bits; number as a string; null as a number; null as the path
refused_7 : every false (
    "{\"video_timescale\":1,\"frame_rate_num\":-1,\"frame_rate_den\":3,\"input\":\"a\",\"total_frames\":4,\"segments\":[]}" ∷
    "{\"video_timescale\":1,\"frame_rate_num\":+1,\"frame_rate_den\":3,\"input\":\"a\",\"total_frames\":4,\"segments\":[]}" ∷
    "{\"video_timescale\":1,\"frame_rate_num\":01,\"frame_rate_den\":3,\"input\":\"a\",\"total_frames\":4,\"segments\":[]}" ∷
    "{\"video_timescale\":1,\"frame_rate_num\":4294967296,\"frame_rate_den\":3,\"input\":\"a\",\"total_frames\":4,\"segments\":[]}" ∷
    "{\"video_timescale\":1,\"frame_rate_num\":2,\"frame_rate_den\":3,\"input\":\"a\",\"total_frames\":4,\"segments\":[{\"source_start_frame\":1,\"source_end_frame\":2,\"source_start_dts\":3,\"frame_count\":4,\"output_start\":5,\"duration\":18446744073709551616}]}" ∷
    "{\"video_timescale\":1,\"frame_rate_num\":\"2\",\"frame_rate_den\":3,\"input\":\"a\",\"total_frames\":4,\"segments\":[]}" ∷
    "{\"video_timescale\":1,\"frame_rate_num\":null,\"frame_rate_den\":3,\"input\":\"a\",\"total_frames\":4,\"segments\":[]}" ∷
    "{\"video_timescale\":1,\"frame_rate_num\":2,\"frame_rate_den\":3,\"input\":null,\"total_frames\":4,\"segments\":[]}" ∷ []) ≡ true
unfolding every same good lead_len second_low second_high tail width_by char_width utf8_from utf8 starts equals digit digits value_from encode is_space spaces padded hex_digit hex_word short_escape unicode_width unicode_point char_wide char_bytes chars_width chars_bytes string_width string_bytes digit_run int_width frac_width is_exp exp_width number_width is_plain literal_width scalar_width key_width member_width row_width row_items value_width bare elements_of members_of values_of field_of segment_said segment_from segments_said segments_from shallow fields_said is_map_text map_said
refused_7 = refl

-- segments as an object; segments null; the map as an array; a segment as an array; a map in an array; raw control byte in a string; bad escape; upper case U
refused_8 : every false (
    "{\"video_timescale\":1,\"frame_rate_num\":2,\"frame_rate_den\":3,\"input\":\"a\",\"total_frames\":4,\"segments\":{}}" ∷
    "{\"video_timescale\":1,\"frame_rate_num\":2,\"frame_rate_den\":3,\"input\":\"a\",\"total_frames\":4,\"segments\":null}" ∷
    "[1,2,3,\"a\",4,[]]" ∷
    "{\"video_timescale\":1,\"frame_rate_num\":2,\"frame_rate_den\":3,\"input\":\"a\",\"total_frames\":4,\"segments\":[[1,2,3,4,5,6]]}" ∷
    "[{\"video_timescale\":1,\"frame_rate_num\":2,\"frame_rate_den\":3,\"input\":\"a\",\"total_frames\":4,\"segments\":[]}]" ∷
    "{\"video_timescale\":1,\"frame_rate_num\":2,\"frame_rate_den\":3,\"input\":\"a\tb\",\"total_frames\":4,\"segments\":[]}" ∷
    "{\"video_timescale\":1,\"frame_rate_num\":2,\"frame_rate_den\":3,\"input\":\"\\x41\",\"total_frames\":4,\"segments\":[]}" ∷
    "{\"video_timescale\":1,\"frame_rate_num\":2,\"frame_rate_den\":3,\"input\":\"\\U0041\",\"total_frames\":4,\"segments\":[]}" ∷ []) ≡ true
unfolding every same good lead_len second_low second_high tail width_by char_width utf8_from utf8 starts equals digit digits value_from encode is_space spaces padded hex_digit hex_word short_escape unicode_width unicode_point char_wide char_bytes chars_width chars_bytes string_width string_bytes digit_run int_width frac_width is_exp exp_width number_width is_plain literal_width scalar_width key_width member_width row_width row_items value_width bare elements_of members_of values_of field_of segment_said segment_from segments_said segments_from shallow fields_said is_map_text map_said
refused_8 = refl

-- single quotes; unknown number 01; unknown number 1.; unknown number .5; unknown number -; unknown NaN; comment; unclosed string
refused_9 : every false (
    "{\"video_timescale\":1,\"frame_rate_num\":2,\"frame_rate_den\":3,\"input\":'a',\"total_frames\":4,\"segments\":[]}" ∷
    "{\"video_timescale\":1,\"frame_rate_num\":2,\"frame_rate_den\":3,\"input\":\"a\",\"total_frames\":4,\"segments\":[],\"a\":01}" ∷
    "{\"video_timescale\":1,\"frame_rate_num\":2,\"frame_rate_den\":3,\"input\":\"a\",\"total_frames\":4,\"segments\":[],\"a\":1.}" ∷
    "{\"video_timescale\":1,\"frame_rate_num\":2,\"frame_rate_den\":3,\"input\":\"a\",\"total_frames\":4,\"segments\":[],\"a\":.5}" ∷
    "{\"video_timescale\":1,\"frame_rate_num\":2,\"frame_rate_den\":3,\"input\":\"a\",\"total_frames\":4,\"segments\":[],\"a\":-}" ∷
    "{\"video_timescale\":1,\"frame_rate_num\":2,\"frame_rate_den\":3,\"input\":\"a\",\"total_frames\":4,\"segments\":[],\"a\":NaN}" ∷
    "{\"video_timescale\":1,\"frame_rate_num\":2,\"frame_rate_den\":3,\"input\":\"a\",\"total_frames\":4,\"segments\":[]}/* */" ∷
    "{\"video_timescale\":1,\"x" ∷ []) ≡ true
unfolding every same good lead_len second_low second_high tail width_by char_width utf8_from utf8 starts equals digit digits value_from encode is_space spaces padded hex_digit hex_word short_escape unicode_width unicode_point char_wide char_bytes chars_width chars_bytes string_width string_bytes digit_run int_width frac_width is_exp exp_width number_width is_plain literal_width scalar_width key_width member_width row_width row_items value_width bare elements_of members_of values_of field_of segment_said segment_from segments_said segments_from shallow fields_said is_map_text map_said
refused_9 = refl

-- no colon
refused_10 : every false (
    "{\"video_timescale\":1,\"frame_rate_num\":2,\"frame_rate_den\":3,\"input\" \"a\",\"total_frames\":4,\"segments\":[]}" ∷ []) ≡ true
unfolding every same good lead_len second_low second_high tail width_by char_width utf8_from utf8 starts equals digit digits value_from encode is_space spaces padded hex_digit hex_word short_escape unicode_width unicode_point char_wide char_bytes chars_width chars_bytes string_width string_bytes digit_run int_width frac_width is_exp exp_width number_width is_plain literal_width scalar_width key_width member_width row_width row_items value_width bare elements_of members_of values_of field_of segment_said segment_from segments_said segments_from shallow fields_said is_map_text map_said
refused_10 = refl

-- 2^32 in each field of 32 bits; 2^64 in each of 64; the last surrogates alone, and ones that make no pair; 0B and 00 about the text
refused_11 : every false (
    "{\"video_timescale\":4294967296,\"frame_rate_num\":2,\"frame_rate_den\":3,\"input\":\"a\",\"total_frames\":4,\"segments\":[{\"source_start_frame\":1,\"source_end_frame\":2,\"source_start_dts\":3,\"frame_count\":4,\"output_start\":5,\"duration\":6}]}" ∷
    "{\"video_timescale\":1,\"frame_rate_num\":4294967296,\"frame_rate_den\":3,\"input\":\"a\",\"total_frames\":4,\"segments\":[{\"source_start_frame\":1,\"source_end_frame\":2,\"source_start_dts\":3,\"frame_count\":4,\"output_start\":5,\"duration\":6}]}" ∷
    "{\"video_timescale\":1,\"frame_rate_num\":2,\"frame_rate_den\":4294967296,\"input\":\"a\",\"total_frames\":4,\"segments\":[{\"source_start_frame\":1,\"source_end_frame\":2,\"source_start_dts\":3,\"frame_count\":4,\"output_start\":5,\"duration\":6}]}" ∷
    "{\"video_timescale\":1,\"frame_rate_num\":2,\"frame_rate_den\":3,\"input\":\"a\",\"total_frames\":4294967296,\"segments\":[{\"source_start_frame\":1,\"source_end_frame\":2,\"source_start_dts\":3,\"frame_count\":4,\"output_start\":5,\"duration\":6}]}" ∷
    "{\"video_timescale\":1,\"frame_rate_num\":2,\"frame_rate_den\":3,\"input\":\"a\",\"total_frames\":4,\"segments\":[{\"source_start_frame\":4294967296,\"source_end_frame\":2,\"source_start_dts\":3,\"frame_count\":4,\"output_start\":5,\"duration\":6}]}" ∷
    "{\"video_timescale\":1,\"frame_rate_num\":2,\"frame_rate_den\":3,\"input\":\"a\",\"total_frames\":4,\"segments\":[{\"source_start_frame\":1,\"source_end_frame\":4294967296,\"source_start_dts\":3,\"frame_count\":4,\"output_start\":5,\"duration\":6}]}" ∷
    "{\"video_timescale\":1,\"frame_rate_num\":2,\"frame_rate_den\":3,\"input\":\"a\",\"total_frames\":4,\"segments\":[{\"source_start_frame\":1,\"source_end_frame\":2,\"source_start_dts\":3,\"frame_count\":4294967296,\"output_start\":5,\"duration\":6}]}" ∷
    "{\"video_timescale\":1,\"frame_rate_num\":2,\"frame_rate_den\":3,\"input\":\"a\",\"total_frames\":4,\"segments\":[{\"source_start_frame\":1,\"source_end_frame\":2,\"source_start_dts\":18446744073709551616,\"frame_count\":4,\"output_start\":5,\"duration\":6}]}" ∷ []) ≡ true
unfolding every same good lead_len second_low second_high tail width_by char_width utf8_from utf8 starts equals digit digits value_from encode is_space spaces padded hex_digit hex_word short_escape unicode_width unicode_point char_wide char_bytes chars_width chars_bytes string_width string_bytes digit_run int_width frac_width is_exp exp_width number_width is_plain literal_width scalar_width key_width member_width row_width row_items value_width bare elements_of members_of values_of field_of segment_said segment_from segments_said segments_from shallow fields_said is_map_text map_said
refused_11 = refl

-- 2^32 in each field of 32 bits; 2^64 in each of 64; the last surrogates alone, and ones that make no pair; 0B and 00 about the text
refused_12 : every false (
    "{\"video_timescale\":1,\"frame_rate_num\":2,\"frame_rate_den\":3,\"input\":\"a\",\"total_frames\":4,\"segments\":[{\"source_start_frame\":1,\"source_end_frame\":2,\"source_start_dts\":3,\"frame_count\":4,\"output_start\":18446744073709551616,\"duration\":6}]}" ∷
    "{\"video_timescale\":1,\"frame_rate_num\":2,\"frame_rate_den\":3,\"input\":\"a\",\"total_frames\":4,\"segments\":[{\"source_start_frame\":1,\"source_end_frame\":2,\"source_start_dts\":3,\"frame_count\":4,\"output_start\":5,\"duration\":18446744073709551616}]}" ∷
    "{\"video_timescale\":1,\"frame_rate_num\":2,\"frame_rate_den\":3,\"input\":\"\\udbff\",\"total_frames\":4,\"segments\":[]}" ∷
    "{\"video_timescale\":1,\"frame_rate_num\":2,\"frame_rate_den\":3,\"input\":\"\\udfff\",\"total_frames\":4,\"segments\":[]}" ∷
    "{\"video_timescale\":1,\"frame_rate_num\":2,\"frame_rate_den\":3,\"input\":\"\\ud800\\ue000\",\"total_frames\":4,\"segments\":[]}" ∷
    "{\"video_timescale\":1,\"frame_rate_num\":2,\"frame_rate_den\":3,\"input\":\"\\ud800\\udbff\",\"total_frames\":4,\"segments\":[]}" ∷
    "\u{b}{\"video_timescale\":1,\"frame_rate_num\":2,\"frame_rate_den\":3,\"input\":\"a\",\"total_frames\":4,\"segments\":[]}" ∷
    "{\"video_timescale\":1,\"frame_rate_num\":2,\"frame_rate_den\":3,\"input\":\"a\",\"total_frames\":4,\"segments\":[]}\0" ∷ []) ≡ true
unfolding every same good lead_len second_low second_high tail width_by char_width utf8_from utf8 starts equals digit digits value_from encode is_space spaces padded hex_digit hex_word short_escape unicode_width unicode_point char_wide char_bytes chars_width chars_bytes string_width string_bytes digit_run int_width frac_width is_exp exp_width number_width is_plain literal_width scalar_width key_width member_width row_width row_items value_width bare elements_of members_of values_of field_of segment_said segment_from segments_said segments_from shallow fields_said is_map_text map_said
refused_12 = refl

-- 2^32 in each field of 32 bits; 2^64 in each of 64; the last surrogates alone, and ones that make no pair; 0B and 00 about the text
refused_13 : every false (
    "{\"video_timescale\":1,\"frame_rate_num\":2,\"frame_rate_den\":3,\"input\":\"a\",\"total_frames\":4,\"segments\":[]}\u{b}" ∷
    "{\"video_timescale\":1,\"frame_rate_num\":2,\"frame_rate_den\":3,\"input\":\"a\",\"total_frames\":4,\u{b}\"segments\":[]}" ∷ []) ≡ true
unfolding every same good lead_len second_low second_high tail width_by char_width utf8_from utf8 starts equals digit digits value_from encode is_space spaces padded hex_digit hex_word short_escape unicode_width unicode_point char_wide char_bytes chars_width chars_bytes string_width string_bytes digit_run int_width frac_width is_exp exp_width number_width is_plain literal_width scalar_width key_width member_width row_width row_items value_width bare elements_of members_of values_of field_of segment_said segment_from segments_said segments_from shallow fields_said is_map_text map_said
refused_13 = refl

-- the greatest number of each field (some are 15 here); surrogates first and last; what stands beside them
taken_4 : every true (
    "{\"video_timescale\":4294967295,\"frame_rate_num\":2,\"frame_rate_den\":3,\"input\":\"a\",\"total_frames\":4,\"segments\":[{\"source_start_frame\":1,\"source_end_frame\":2,\"source_start_dts\":3,\"frame_count\":4,\"output_start\":5,\"duration\":6}]}" ∷
    "{\"video_timescale\":1,\"frame_rate_num\":4294967295,\"frame_rate_den\":3,\"input\":\"a\",\"total_frames\":4,\"segments\":[{\"source_start_frame\":1,\"source_end_frame\":2,\"source_start_dts\":3,\"frame_count\":4,\"output_start\":5,\"duration\":6}]}" ∷
    "{\"video_timescale\":1,\"frame_rate_num\":2,\"frame_rate_den\":4294967295,\"input\":\"a\",\"total_frames\":4,\"segments\":[{\"source_start_frame\":1,\"source_end_frame\":2,\"source_start_dts\":3,\"frame_count\":4,\"output_start\":5,\"duration\":6}]}" ∷
    "{\"video_timescale\":1,\"frame_rate_num\":2,\"frame_rate_den\":3,\"input\":\"a\",\"total_frames\":4294967295,\"segments\":[{\"source_start_frame\":1,\"source_end_frame\":2,\"source_start_dts\":3,\"frame_count\":4,\"output_start\":5,\"duration\":6}]}" ∷
    "{\"video_timescale\":1,\"frame_rate_num\":2,\"frame_rate_den\":3,\"input\":\"a\",\"total_frames\":4,\"segments\":[{\"source_start_frame\":4294967295,\"source_end_frame\":2,\"source_start_dts\":3,\"frame_count\":4,\"output_start\":5,\"duration\":6}]}" ∷
    "{\"video_timescale\":1,\"frame_rate_num\":2,\"frame_rate_den\":3,\"input\":\"a\",\"total_frames\":4,\"segments\":[{\"source_start_frame\":1,\"source_end_frame\":4294967295,\"source_start_dts\":3,\"frame_count\":4,\"output_start\":5,\"duration\":6}]}" ∷
    "{\"video_timescale\":1,\"frame_rate_num\":2,\"frame_rate_den\":3,\"input\":\"a\",\"total_frames\":4,\"segments\":[{\"source_start_frame\":1,\"source_end_frame\":2,\"source_start_dts\":3,\"frame_count\":4294967295,\"output_start\":5,\"duration\":6}]}" ∷
    "{\"video_timescale\":1,\"frame_rate_num\":2,\"frame_rate_den\":3,\"input\":\"a\",\"total_frames\":4,\"segments\":[{\"source_start_frame\":1,\"source_end_frame\":2,\"source_start_dts\":18446744073709551615,\"frame_count\":4,\"output_start\":5,\"duration\":6}]}" ∷ []) ≡ true
unfolding every same good lead_len second_low second_high tail width_by char_width utf8_from utf8 starts equals digit digits value_from encode is_space spaces padded hex_digit hex_word short_escape unicode_width unicode_point char_wide char_bytes chars_width chars_bytes string_width string_bytes digit_run int_width frac_width is_exp exp_width number_width is_plain literal_width scalar_width key_width member_width row_width row_items value_width bare elements_of members_of values_of field_of segment_said segment_from segments_said segments_from shallow fields_said is_map_text map_said
taken_4 = refl

-- the greatest number of each field (some are 15 here); surrogates first and last; what stands beside them
taken_5 : every true (
    "{\"video_timescale\":1,\"frame_rate_num\":2,\"frame_rate_den\":3,\"input\":\"a\",\"total_frames\":4,\"segments\":[{\"source_start_frame\":1,\"source_end_frame\":2,\"source_start_dts\":9007199254740992,\"frame_count\":4,\"output_start\":5,\"duration\":6}]}" ∷
    "{\"video_timescale\":1,\"frame_rate_num\":2,\"frame_rate_den\":3,\"input\":\"a\",\"total_frames\":4,\"segments\":[{\"source_start_frame\":1,\"source_end_frame\":2,\"source_start_dts\":4294967296,\"frame_count\":4,\"output_start\":5,\"duration\":6}]}" ∷
    "{\"video_timescale\":1,\"frame_rate_num\":2,\"frame_rate_den\":3,\"input\":\"a\",\"total_frames\":4,\"segments\":[{\"source_start_frame\":1,\"source_end_frame\":2,\"source_start_dts\":3,\"frame_count\":4,\"output_start\":18446744073709551615,\"duration\":6}]}" ∷
    "{\"video_timescale\":1,\"frame_rate_num\":2,\"frame_rate_den\":3,\"input\":\"a\",\"total_frames\":4,\"segments\":[{\"source_start_frame\":1,\"source_end_frame\":2,\"source_start_dts\":3,\"frame_count\":4,\"output_start\":9007199254740992,\"duration\":6}]}" ∷
    "{\"video_timescale\":1,\"frame_rate_num\":2,\"frame_rate_den\":3,\"input\":\"a\",\"total_frames\":4,\"segments\":[{\"source_start_frame\":1,\"source_end_frame\":2,\"source_start_dts\":3,\"frame_count\":4,\"output_start\":4294967296,\"duration\":6}]}" ∷
    "{\"video_timescale\":1,\"frame_rate_num\":2,\"frame_rate_den\":3,\"input\":\"a\",\"total_frames\":4,\"segments\":[{\"source_start_frame\":1,\"source_end_frame\":2,\"source_start_dts\":3,\"frame_count\":4,\"output_start\":5,\"duration\":18446744073709551615}]}" ∷
    "{\"video_timescale\":1,\"frame_rate_num\":2,\"frame_rate_den\":3,\"input\":\"a\",\"total_frames\":4,\"segments\":[{\"source_start_frame\":1,\"source_end_frame\":2,\"source_start_dts\":3,\"frame_count\":4,\"output_start\":5,\"duration\":9007199254740992}]}" ∷
    "{\"video_timescale\":1,\"frame_rate_num\":2,\"frame_rate_den\":3,\"input\":\"a\",\"total_frames\":4,\"segments\":[{\"source_start_frame\":1,\"source_end_frame\":2,\"source_start_dts\":3,\"frame_count\":4,\"output_start\":5,\"duration\":4294967296}]}" ∷ []) ≡ true
unfolding every same good lead_len second_low second_high tail width_by char_width utf8_from utf8 starts equals digit digits value_from encode is_space spaces padded hex_digit hex_word short_escape unicode_width unicode_point char_wide char_bytes chars_width chars_bytes string_width string_bytes digit_run int_width frac_width is_exp exp_width number_width is_plain literal_width scalar_width key_width member_width row_width row_items value_width bare elements_of members_of values_of field_of segment_said segment_from segments_said segments_from shallow fields_said is_map_text map_said
taken_5 = refl

-- the greatest number of each field (some are 15 here); surrogates first and last; what stands beside them
taken_6 : every true (
    "{\"video_timescale\":1,\"frame_rate_num\":2,\"frame_rate_den\":3,\"input\":\"a\",\"total_frames\":4,\"segments\":[{\"source_start_frame\":1,\"source_end_frame\":2,\"source_start_dts\":9007199254740986,\"frame_count\":4,\"output_start\":5,\"duration\":6}]}" ∷
    "{\"video_timescale\":1,\"frame_rate_num\":2,\"frame_rate_den\":3,\"input\":\"a\",\"total_frames\":4,\"segments\":[{\"source_start_frame\":1,\"source_end_frame\":2,\"source_start_dts\":9007199254740987,\"frame_count\":4,\"output_start\":5,\"duration\":6}]}" ∷
    "{\"video_timescale\":1,\"frame_rate_num\":2,\"frame_rate_den\":3,\"input\":\"a\",\"total_frames\":4,\"segments\":[{\"source_start_frame\":1,\"source_end_frame\":2,\"source_start_dts\":3,\"frame_count\":4,\"output_start\":9007199254740986,\"duration\":6}]}" ∷
    "{\"video_timescale\":1,\"frame_rate_num\":2,\"frame_rate_den\":3,\"input\":\"a\",\"total_frames\":4,\"segments\":[{\"source_start_frame\":1,\"source_end_frame\":2,\"source_start_dts\":3,\"frame_count\":4,\"output_start\":9007199254740987,\"duration\":6}]}" ∷
    "{\"video_timescale\":1,\"frame_rate_num\":2,\"frame_rate_den\":3,\"input\":\"\\ud7ff\",\"total_frames\":4,\"segments\":[]}" ∷
    "{\"video_timescale\":1,\"frame_rate_num\":2,\"frame_rate_den\":3,\"input\":\"\\ue000\",\"total_frames\":4,\"segments\":[]}" ∷
    "{\"video_timescale\":1,\"frame_rate_num\":2,\"frame_rate_den\":3,\"input\":\"\\udbff\\udfff\",\"total_frames\":4,\"segments\":[]}" ∷
    "{\"video_timescale\":1,\"frame_rate_num\":2,\"frame_rate_den\":3,\"input\":\"\\ud800\\udc00\",\"total_frames\":4,\"segments\":[]}" ∷ []) ≡ true
unfolding every same good lead_len second_low second_high tail width_by char_width utf8_from utf8 starts equals digit digits value_from encode is_space spaces padded hex_digit hex_word short_escape unicode_width unicode_point char_wide char_bytes chars_width chars_bytes string_width string_bytes digit_run int_width frac_width is_exp exp_width number_width is_plain literal_width scalar_width key_width member_width row_width row_items value_width bare elements_of members_of values_of field_of segment_said segment_from segments_said segments_from shallow fields_said is_map_text map_said
taken_6 = refl

-- the greatest number of each field (some are 15 here); surrogates first and last; what stands beside them
taken_7 : every true (
    "{\"video_timescale\":1,\"frame_rate_num\":2,\"frame_rate_den\":3,\"input\":\"\\udbff\\udc00\",\"total_frames\":4,\"segments\":[]}" ∷ []) ≡ true
unfolding every same good lead_len second_low second_high tail width_by char_width utf8_from utf8 starts equals digit digits value_from encode is_space spaces padded hex_digit hex_word short_escape unicode_width unicode_point char_wide char_bytes chars_width chars_bytes string_width string_bytes digit_run int_width frac_width is_exp exp_width number_width is_plain literal_width scalar_width key_width member_width row_width row_items value_width bare elements_of members_of values_of field_of segment_said segment_from segments_said segments_from shallow fields_said is_map_text map_said
taken_7 = refl

-- document 01's map, and a path with each kind of escape
path : List ℕ
path = 47 ∷ 97 ∷ 32 ∷ 34 ∷ 120 ∷ 34 ∷ 92 ∷ 1 ∷ 31 ∷ 10 ∷ 13 ∷ 9 ∷ 8 ∷ 12 ∷ 47 ∷ 0 ∷ []

numbers : List ℕ
numbers = 0 ∷ 3 ∷ 0 ∷ 3 ∷ 0 ∷ 3003 ∷ 6 ∷ 10 ∷ 6006 ∷ 4 ∷ 3003 ∷ 4004 ∷ []

text : List ℕ
text = map_text 30000 30000 1001 path 10 (segments_of numbers)

written : text ≡ ascii "{\n  \"video_timescale\": 30000,\n  \"frame_rate_num\": 30000,\n  \"frame_rate_den\": 1001,\n  \"input\": \"/a \\\"x\\\"\\\\\\u0001\\u001f\\n\\r\\t\\b\\f/\\u0000\",\n  \"total_frames\": 10,\n  \"segments\": [\n    {\n      \"source_start_frame\": 0,\n      \"source_end_frame\": 3,\n      \"source_start_dts\": 0,\n      \"frame_count\": 3,\n      \"output_start\": 0,\n      \"duration\": 3003\n    },\n    {\n      \"source_start_frame\": 6,\n      \"source_end_frame\": 10,\n      \"source_start_dts\": 6006,\n      \"frame_count\": 4,\n      \"output_start\": 3003,\n      \"duration\": 4004\n    }\n  ]\n}\n"
unfolding text path numbers hex_letter escaped escaped_all quoted decimal item_lines pretty_object pretty_array segment_text map_text pad width_under width segments_of flat_of
written = refl

written_none : map_text 1 0 0 [] 0 [] ≡ ascii "{\n  \"video_timescale\": 1,\n  \"frame_rate_num\": 0,\n  \"frame_rate_den\": 0,\n  \"input\": \"\",\n  \"total_frames\": 0,\n  \"segments\": []\n}\n"
unfolding hex_letter escaped escaped_all quoted decimal item_lines pretty_object pretty_array segment_text map_text pad width_under width segments_of flat_of
written_none = refl

read_timescale : (map_said text).timescale ≡ 30000
unfolding text path numbers hex_letter escaped escaped_all quoted decimal item_lines pretty_object pretty_array segment_text map_text pad width_under width segments_of flat_of good lead_len second_low second_high tail width_by char_width utf8_from utf8 starts equals digit digits value_from encode is_space spaces padded hex_digit hex_word short_escape unicode_width unicode_point char_wide char_bytes chars_width chars_bytes string_width string_bytes digit_run int_width frac_width is_exp exp_width number_width is_plain literal_width scalar_width key_width member_width row_width row_items value_width bare elements_of members_of values_of field_of segment_said segment_from segments_said segments_from shallow fields_said is_map_text map_said
read_timescale = refl

read_rate_num : (map_said text).rate_num ≡ 30000
unfolding text path numbers hex_letter escaped escaped_all quoted decimal item_lines pretty_object pretty_array segment_text map_text pad width_under width segments_of flat_of good lead_len second_low second_high tail width_by char_width utf8_from utf8 starts equals digit digits value_from encode is_space spaces padded hex_digit hex_word short_escape unicode_width unicode_point char_wide char_bytes chars_width chars_bytes string_width string_bytes digit_run int_width frac_width is_exp exp_width number_width is_plain literal_width scalar_width key_width member_width row_width row_items value_width bare elements_of members_of values_of field_of segment_said segment_from segments_said segments_from shallow fields_said is_map_text map_said
read_rate_num = refl

read_rate_den : (map_said text).rate_den ≡ 1001
unfolding text path numbers hex_letter escaped escaped_all quoted decimal item_lines pretty_object pretty_array segment_text map_text pad width_under width segments_of flat_of good lead_len second_low second_high tail width_by char_width utf8_from utf8 starts equals digit digits value_from encode is_space spaces padded hex_digit hex_word short_escape unicode_width unicode_point char_wide char_bytes chars_width chars_bytes string_width string_bytes digit_run int_width frac_width is_exp exp_width number_width is_plain literal_width scalar_width key_width member_width row_width row_items value_width bare elements_of members_of values_of field_of segment_said segment_from segments_said segments_from shallow fields_said is_map_text map_said
read_rate_den = refl

read_frames : (map_said text).frames ≡ 10
unfolding text path numbers hex_letter escaped escaped_all quoted decimal item_lines pretty_object pretty_array segment_text map_text pad width_under width segments_of flat_of good lead_len second_low second_high tail width_by char_width utf8_from utf8 starts equals digit digits value_from encode is_space spaces padded hex_digit hex_word short_escape unicode_width unicode_point char_wide char_bytes chars_width chars_bytes string_width string_bytes digit_run int_width frac_width is_exp exp_width number_width is_plain literal_width scalar_width key_width member_width row_width row_items value_width bare elements_of members_of values_of field_of segment_said segment_from segments_said segments_from shallow fields_said is_map_text map_said
read_frames = refl

read_path : (map_said text).path ≡ path
unfolding text path numbers hex_letter escaped escaped_all quoted decimal item_lines pretty_object pretty_array segment_text map_text pad width_under width segments_of flat_of good lead_len second_low second_high tail width_by char_width utf8_from utf8 starts equals digit digits value_from encode is_space spaces padded hex_digit hex_word short_escape unicode_width unicode_point char_wide char_bytes chars_width chars_bytes string_width string_bytes digit_run int_width frac_width is_exp exp_width number_width is_plain literal_width scalar_width key_width member_width row_width row_items value_width bare elements_of members_of values_of field_of segment_said segment_from segments_said segments_from shallow fields_said is_map_text map_said
read_path = refl

read_map : flat_of (map_said text).segments ≡ numbers
unfolding text path numbers hex_letter escaped escaped_all quoted decimal item_lines pretty_object pretty_array segment_text map_text pad width_under width segments_of flat_of good lead_len second_low second_high tail width_by char_width utf8_from utf8 starts equals digit digits value_from encode is_space spaces padded hex_digit hex_word short_escape unicode_width unicode_point char_wide char_bytes chars_width chars_bytes string_width string_bytes digit_run int_width frac_width is_exp exp_width number_width is_plain literal_width scalar_width key_width member_width row_width row_items value_width bare elements_of members_of values_of field_of segment_said segment_from segments_said segments_from shallow fields_said is_map_text map_said
read_map = refl

read_good : is_map_text text ≡ true
unfolding text path numbers hex_letter escaped escaped_all quoted decimal item_lines pretty_object pretty_array segment_text map_text pad width_under width segments_of flat_of good lead_len second_low second_high tail width_by char_width utf8_from utf8 starts equals digit digits value_from encode is_space spaces padded hex_digit hex_word short_escape unicode_width unicode_point char_wide char_bytes chars_width chars_bytes string_width string_bytes digit_run int_width frac_width is_exp exp_width number_width is_plain literal_width scalar_width key_width member_width row_width row_items value_width bare elements_of members_of values_of field_of segment_said segment_from segments_said segments_from shallow fields_said is_map_text map_said
read_good = refl
