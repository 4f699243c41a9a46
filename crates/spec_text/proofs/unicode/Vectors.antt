-- Worked examples as theorems, by computation.
use mathlib.Core.Path.{◌≡◌, refl}
use mathlib.Core.Bool.{true, false}
use mathlib.Core.List.{[], ◌∷◌}
use Rattle.spec_text.specs.utf8.Utf8.{lead_len, second_low, second_high, tail, width_by, char_width, utf8_from, utf8, code_by, code_head}
use Rattle.spec_base.specs.base.Part.{last}
use Rattle.spec_text.specs.whitespace.White.{white_high, white, white_head, ends_white, white_tail, head_from, keep_from, trim_head, trim_tail, trim}

nul_two_bytes : utf8 (192 ∷ 128 ∷ []) ≡ false
unfolding utf8 utf8_from char_width width_by lead_len second_low second_high tail
nul_two_bytes = refl

slash_three_bytes : utf8 (224 ∷ 128 ∷ 175 ∷ []) ≡ false
unfolding utf8 utf8_from char_width width_by lead_len second_low second_high tail
slash_three_bytes = refl

surrogate : utf8 (237 ∷ 160 ∷ 128 ∷ []) ≡ false
unfolding utf8 utf8_from char_width width_by lead_len second_low second_high tail
surrogate = refl

above_10ffff : utf8 (244 ∷ 144 ∷ 128 ∷ 128 ∷ []) ≡ false
unfolding utf8 utf8_from char_width width_by lead_len second_low second_high tail
above_10ffff = refl

highest : utf8 (244 ∷ 143 ∷ 191 ∷ 191 ∷ []) ≡ true
unfolding utf8 utf8_from char_width width_by lead_len second_low second_high tail
highest = refl

a_not_identical_to_alpha : utf8 (65 ∷ 226 ∷ 137 ∷ 162 ∷ 206 ∷ 145 ∷ 46 ∷ []) ≡ true
unfolding utf8 utf8_from char_width width_by lead_len second_low second_high tail
a_not_identical_to_alpha = refl

hangugeo : utf8 (237 ∷ 149 ∷ 156 ∷ 234 ∷ 181 ∷ 173 ∷ 236 ∷ 150 ∷ 180 ∷ []) ≡ true
unfolding utf8 utf8_from char_width width_by lead_len second_low second_high tail
hangugeo = refl

nihongo : utf8 (230 ∷ 151 ∷ 165 ∷ 230 ∷ 156 ∷ 172 ∷ 232 ∷ 170 ∷ 158 ∷ []) ≡ true
unfolding utf8 utf8_from char_width width_by lead_len second_low second_high tail
nihongo = refl

stump_of_tree_after_bom : utf8 (239 ∷ 187 ∷ 191 ∷ 240 ∷ 163 ∷ 142 ∷ 180 ∷ []) ≡ true
unfolding utf8 utf8_from char_width width_by lead_len second_low second_high tail
stump_of_tree_after_bom = refl

cut : utf8 (226 ∷ 128 ∷ []) ≡ false
unfolding utf8 utf8_from char_width width_by lead_len second_low second_high tail
cut = refl

lone_tail : utf8 (97 ∷ 128 ∷ []) ≡ false
unfolding utf8 utf8_from char_width width_by lead_len second_low second_high tail
lone_tail = refl

ideographic : trim (32 ∷ 227 ∷ 128 ∷ 128 ∷ 97 ∷ 32 ∷ 98 ∷ 226 ∷ 128 ∷ 168 ∷ 9 ∷ 194 ∷ 133 ∷ []) ≡ 97 ∷ 32 ∷ 98 ∷ []
unfolding trim trim_tail trim_head keep_from head_from white_tail ends_white last white_head white white_high code_head code_by char_width width_by lead_len second_low second_high tail
ideographic = refl

all_white : trim (226 ∷ 128 ∷ 131 ∷ 32 ∷ 226 ∷ 129 ∷ 159 ∷ []) ≡ []
unfolding trim trim_tail trim_head keep_from head_from white_tail ends_white last white_head white white_high code_head code_by char_width width_by lead_len second_low second_high tail
all_white = refl

zero_width_kept : trim (226 ∷ 128 ∷ 139 ∷ 97 ∷ []) ≡ 226 ∷ 128 ∷ 139 ∷ 97 ∷ []
unfolding trim trim_tail trim_head keep_from head_from white_tail ends_white last white_head white white_high code_head code_by char_width width_by lead_len second_low second_high tail
zero_width_kept = refl
