-- Worked examples, by computation.
use Rattle.spec_base.specs.base.Ascii.{ascii}
use mathlib.Core.Path.{◌≡◌, refl}
use mathlib.Core.List.{[], ◌∷◌, ◌++◌}
use Rattle.spec_base.specs.base.Part.{last}
use Rattle.spec_text.specs.utf8.Utf8.{lead_len, second_low, second_high, tail, width_by, char_width, code_by, code_head}
use Rattle.spec_text.specs.whitespace.White.{white_high, white, white_head, ends_white, white_tail, head_from, keep_from, trim_head, trim_tail, trim}
use Rattle.spec_text.specs.pattern.Find.{starts, first, contains, up_to, past}
use Rattle.spec_text.specs.text.Number.{digit, digits, value_from, natural, unsigned, number}
use Rattle.spec_time.specs.caption_time.Kind.{kind_bad, units_of, mark_of, fraction_digits, hour_digits}
use Rattle.spec_time.specs.caption_stamp.Read.{stamp, time_with, wide_by, wide_from, vtt_time, mark_in, time_in, time_number, time_units, time_mark}
use Rattle.spec_time.specs.caption_stamp.Write.{pad, width_under, width, text_with, time_text}

-- ---- times read
read_ass : (time_in 0 (ascii "0:59:59.99") ≡ stamp 359999 46)
    × (time_in 0 (ascii "9999:59:59.99") ≡ stamp 3599999999 46)
    × (time_in 0 (ascii "0:00:00.5") ≡ stamp 5 46)
    × (time_in 0 (ascii "+1:2:+03.000005") ≡ stamp 372305 46)
    × (time_in 0 (ascii " \t0:0:1.0  ") ≡ stamp 100 46)
unfolding time_in vtt_time wide_by wide_from mark_in contains time_with kind_bad units_of mark_of trim trim_head trim_tail head_from keep_from white_tail ends_white white_head white white_high code_head code_by char_width width_by lead_len second_low second_high tail last up_to past first starts number natural unsigned digits digit value_from
read_ass = (refl, refl, refl, refl, refl)

read_srt : (time_in 1 (ascii "00:00:01,500") ≡ stamp 1500 44)
    × (time_in 1 (ascii "100:00:00,45") ≡ stamp 360000045 44)
    × (time_in 1 (ascii "0:0:0,5") ≡ stamp 5 44)
unfolding time_in vtt_time wide_by wide_from mark_in contains time_with kind_bad units_of mark_of trim trim_head trim_tail head_from keep_from white_tail ends_white white_head white white_high code_head code_by char_width width_by lead_len second_low second_high tail last up_to past first starts number natural unsigned digits digit value_from
read_srt = (refl, refl, refl)

-- ---- a comma or a point in SRT: thirteen times worked by hand
read_marks : (time_in 1 (ascii "00:00:01,500") ≡ stamp 1500 44)
    × (time_in 1 (ascii "00:00:01.500") ≡ stamp 1500 46)
    × (time_in 1 (ascii "0:0:1.5") ≡ stamp 1005 46)
    × (time_number (time_in 1 (ascii "00:00:01.5,0")) ≡ 22)
    × (time_number (time_in 1 (ascii "00:00:01,5.0")) ≡ 22)
    × (time_number (time_in 1 (ascii "00:00:01;500")) ≡ 22)
    × (time_in 1 (ascii "100:00:00.45") ≡ stamp 360000045 46)
    × (time_number (time_in 1 (ascii "00:00:01.")) ≡ 22)
    × (time_number (time_in 1 (ascii "00:00:01.1000")) ≡ 22)
    × (time_in 1 (ascii "+0:+0:+1.+5") ≡ stamp 1005 46)
    × (time_in 1 (ascii " 00:00:01.500" ++ 0xE3 ∷ 0x80 ∷ 0x80 ∷ []) ≡ stamp 1500 46)
    × (time_in 1 (ascii "9999:59:59.999") ≡ stamp 35999999999 46)
    × (time_number (time_in 1 (ascii "10000:00:00.000")) ≡ 22)
unfolding time_in vtt_time wide_by wide_from mark_in contains time_with kind_bad units_of mark_of trim trim_head trim_tail head_from keep_from white_tail ends_white white_head white white_high code_head code_by char_width width_by lead_len second_low second_high tail last up_to past first starts number natural unsigned digits digit value_from
read_marks = (refl, refl, refl, refl, refl, refl, refl, refl, refl, refl, refl, refl, refl)

-- ---- WebVTT: hours may be missing, and have two digits or more; each other part has its width, and no `+`
read_vtt : (time_in 2 (ascii "00:01.500") ≡ stamp 1500 46)
    × (time_in 2 (ascii "00:00:01.500") ≡ stamp 1500 46)
    × (time_in 2 (ascii "0000100:00:00.045") ≡ stamp 360000045 46)
    × (time_in 2 (ascii "9999:59:59.999") ≡ stamp 35999999999 46)
    × (time_in 2 (ascii " \t59:59.999" ++ 0xE3 ∷ 0x80 ∷ 0x80 ∷ []) ≡ stamp 3599999 46)
unfolding time_in vtt_time wide_by wide_from mark_in contains time_with kind_bad units_of mark_of trim trim_head trim_tail head_from keep_from white_tail ends_white white_head white white_high code_head code_by char_width width_by lead_len second_low second_high tail last up_to past first starts number natural unsigned digits digit value_from
read_vtt = (refl, refl, refl, refl, refl)

vtt_bad : (time_number (time_in 2 (ascii "0:00:01.500")) ≡ 22)
    × (time_number (time_in 2 (ascii "00:00:01,500")) ≡ 22)
    × (time_number (time_in 2 (ascii "00:01.50")) ≡ 22)
    × (time_number (time_in 2 (ascii "00:1.500")) ≡ 22)
    × (time_number (time_in 2 (ascii "0:01.500")) ≡ 22)
    × (time_number (time_in 2 (ascii "+0:01.500")) ≡ 22)
    × (time_number (time_in 2 (ascii "00:60.000")) ≡ 22)
    × (time_number (time_in 2 (ascii "60:00.000")) ≡ 22)
    × (time_number (time_in 2 (ascii "10000:00:00.000")) ≡ 22)
    × (time_number (time_in 2 (ascii "00:00:00:01.500")) ≡ 22)
    × (time_number (time_in 2 (ascii ":00:01.500")) ≡ 22)
    × (time_number (time_in 2 (ascii "01.500")) ≡ 22)
    × (time_number (time_in 2 (ascii "00:01.5000")) ≡ 22)
unfolding time_in vtt_time wide_by wide_from mark_in contains time_with kind_bad units_of mark_of trim trim_head trim_tail head_from keep_from white_tail ends_white white_head white white_high code_head code_by char_width width_by lead_len second_low second_high tail last up_to past first starts number natural unsigned digits digit value_from
vtt_bad = (refl, refl, refl, refl, refl, refl, refl, refl, refl, refl, refl, refl, refl)

-- each part past its limit, a missing part, white space inside, the other kind's mark, and no such kind
read_bad : (time_number (time_in 0 (ascii "0:60:00.00")) ≡ 22)
    × (time_number (time_in 0 (ascii "0:00:60.00")) ≡ 22)
    × (time_number (time_in 0 (ascii "10000:00:00.00")) ≡ 22)
    × (time_number (time_in 0 (ascii "0:00:00.100")) ≡ 22)
    × (time_number (time_in 1 (ascii "00:00:00,1000")) ≡ 22)
    × (time_number (time_in 0 (ascii "0:+:00.00")) ≡ 22)
    × (time_number (time_in 0 (ascii "0:00.00")) ≡ 22)
    × (time_number (time_in 0 (ascii "0:00:00")) ≡ 22)
    × (time_number (time_in 0 (ascii "0: 1:00.00")) ≡ 22)
    × (time_number (time_in 0 (ascii "")) ≡ 22)
    × (time_number (time_in 1 (ascii "00:00:01.5,0")) ≡ 22)
    × (time_number (time_in 0 (ascii "0:00:01,50")) ≡ 22)
    × (time_number (time_in 3 (ascii "00:00:01.500")) ≡ 22)
unfolding time_in vtt_time wide_by wide_from mark_in contains time_with kind_bad units_of mark_of trim trim_head trim_tail head_from keep_from white_tail ends_white white_head white white_high code_head code_by char_width width_by lead_len second_low second_high tail last up_to past first starts number natural unsigned digits digit value_from
read_bad = (refl, refl, refl, refl, refl, refl, refl, refl, refl, refl, refl, refl, refl)

read_values : (time_number (time_in 0 (ascii "0:00:00.21")) ≡ 0)
    × (time_units (time_in 0 (ascii "0:00:00.21")) ≡ 21)
    × (time_mark (time_in 0 (ascii "0:00:00.21")) ≡ 46)
unfolding time_in vtt_time wide_by wide_from mark_in contains time_with kind_bad units_of mark_of trim trim_head trim_tail head_from keep_from white_tail ends_white white_head white white_high code_head code_by char_width width_by lead_len second_low second_high tail last up_to past first starts number natural unsigned digits digit value_from
read_values = (refl, refl, refl)

-- ---- times written

written : (time_text 0 46 359999 ≡ ascii "0:59:59.99")
    × (time_text 0 46 0 ≡ ascii "0:00:00.00")
    × (time_text 0 46 3600000000 ≡ ascii "10000:00:00.00")
    × (time_text 1 44 45296789 ≡ ascii "12:34:56,789")
    × (time_text 1 44 5 ≡ ascii "00:00:00,005")
    × (time_text 1 46 1500 ≡ ascii "00:00:01.500")
    × (time_text 2 46 1500 ≡ ascii "00:00:01.500")
    × (time_text 2 46 360000045 ≡ ascii "100:00:00.045")
unfolding time_text text_with kind_bad units_of fraction_digits hour_digits width width_under pad
written = (refl, refl, refl, refl, refl, refl, refl, refl)
