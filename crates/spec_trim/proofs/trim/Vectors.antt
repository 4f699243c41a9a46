-- Worked examples as theorems, by computation: document 01's list, a list for each number, and the edges between two numbers.
use mathlib.Core.Path.{◌≡◌, refl}
use mathlib.Core.List.{List, [], ◌∷◌, map}
use Prim.Native.Nat.{ℕ, ◌<◌}
use Rattle.spec_base.specs.base.Ascii.{ascii}
use native.Mathlib.Omega.{arith}
use borrow.Author.Tests.{lt-leb}
use lib.ListN.{length, replicate, length-replicate}
use Rattle.spec_base.specs.base.Limits.{most_list_bytes}
use Rattle.spec_base.specs.base.Part.{last}
use Rattle.spec_base.specs.base.Refusal.{◌or_else◌, fault_unless}
use Rattle.spec_text.specs.utf8.Utf8.{lead_len, second_low, second_high, tail, width_by, char_width, utf8_from, utf8, code_by, code_head}
use Rattle.spec_text.specs.whitespace.White.{white_high, white, white_head, ends_white, white_tail, head_from, keep_from, trim_head, trim_tail, trim}
use Rattle.spec_text.specs.text.Line.{blank}
use Rattle.spec_text.specs.pattern.Find.{starts}
use Rattle.spec_text.specs.pattern.Piece.{pieces_from, pieces}
use Rattle.spec_text.specs.text.Number.{digit, digits, value_from, natural, unsigned, number}
use Rattle.spec_trim.specs.trim.Token.{range_of, bounds_of, pair_of, closed_of, token_of, behind_end, step_of, token_number, token_range, token_end}
use Rattle.spec_trim.specs.trim.TrimList.{tokens_of, list_tokens, tokens_number, ranges_in, head_number, list_number, range_count, ranges_of, parsed, list_answer, parse_number, parse_of}

-- document 01's list; one place too few; a blank list (U+3000 and a tab) has no range
parses :
    map (λ p. parse_of (ascii "Trim(0,2) ++ Trim(6,8)") p) (2048 ∷ 2047 ∷ []) ≡ parsed 0 2 ∷ parsed 16 0 ∷ []
unfolding list_tokens parse_of parse_number list_answer range_count list_number head_number step_of behind_end token_of closed_of pair_of bounds_of range_of token_number token_range token_end pieces pieces_from starts number unsigned natural value_from digits digit blank trim trim_tail trim_head keep_from head_from white_tail ends_white last white_head white white_high code_head code_by char_width width_by lead_len second_low second_high tail utf8 utf8_from ◌or_else◌ fault_unless tokens_of tokens_number
parses = refl

blank_wide : parse_of (0xE3 ∷ 0x80 ∷ 0x80 ∷ 0x09 ∷ []) 2048 ≡ parsed 0 0
unfolding list_tokens parse_of parse_number list_answer range_count list_number head_number step_of behind_end token_of closed_of pair_of bounds_of range_of token_number token_range token_end pieces pieces_from starts number unsigned natural value_from digits digit blank trim trim_tail trim_head keep_from head_from white_tail ends_white last white_head white white_high code_head code_by char_width width_by lead_len second_low second_high tail utf8 utf8_from ◌or_else◌ fault_unless tokens_of tokens_number
blank_wide = refl

-- the ranges of document 01's list; a plus sign after the mark and before a digit
ranges : map ranges_of (ascii "Trim(0,2) ++ Trim(6,8)" ∷ ascii "Trim(0,1)++Trim(2,+3)" ∷ []) ≡ (0 ∷ 3 ∷ 6 ∷ 9 ∷ []) ∷ (0 ∷ 2 ∷ 2 ∷ 4 ∷ []) ∷ []
unfolding list_tokens ranges_of ranges_in step_of behind_end token_of closed_of pair_of bounds_of range_of token_number token_range token_end pieces pieces_from starts number unsigned natural value_from digits digit blank trim trim_tail trim_head keep_from head_from white_tail ends_white last white_head white white_high code_head code_by char_width width_by lead_len second_low second_high tail utf8 utf8_from ◌or_else◌ fault_unless tokens_of tokens_number
ranges = refl

-- good lists: a plus sign; ranges that touch; blank ones (a space, U+3000 and a line end; nothing)
good_lists :
    map list_number (ascii "Trim(0,1)++Trim(2,+3)" ∷ ascii "Trim(0,2)++Trim(3,3)" ∷ (0x20 ∷ 0xE3 ∷ 0x80 ∷ 0x80 ∷ 0x0A ∷ []) ∷ [] ∷ []) ≡ 0 ∷ 0 ∷ 0 ∷ 0 ∷ []
unfolding list_tokens list_number head_number step_of behind_end token_of closed_of pair_of bounds_of range_of token_number token_range token_end pieces pieces_from starts number unsigned natural value_from digits digit blank trim trim_tail trim_head keep_from head_from white_tail ends_white last white_head white white_high code_head code_by char_width width_by lead_len second_low second_high tail utf8 utf8_from ◌or_else◌ fault_unless tokens_of tokens_number
good_lists = refl

-- 2: two plus signs part the tokens wherever they stand, a mark at the end or alone, what is blank behind one is no list; two commas; a BOM is no White_Space
no_shape :
    map list_number
    (ascii "Trim(0,++1)" ∷ ascii "Trim(0,2)++" ∷ ascii "++" ∷ ascii "Trim(0,2)++ " ∷ ascii "Trim(0,2,4)" ∷ (0xEF ∷ 0xBB ∷ 0xBF ∷ []) ∷ [])
    ≡ 2 ∷ 2 ∷ 2 ∷ 2 ∷ 2 ∷ 2 ∷ []
unfolding list_tokens list_number head_number step_of behind_end token_of closed_of pair_of bounds_of range_of token_number token_range token_end pieces pieces_from starts number unsigned natural value_from digits digit blank trim trim_tail trim_head keep_from head_from white_tail ends_white last white_head white white_high code_head code_by char_width width_by lead_len second_low second_high tail utf8 utf8_from ◌or_else◌ fault_unless tokens_of tokens_number
no_shape = refl

-- 3 no number, and one too high; 4 backward; 5 the last frame; 6 crossing; 20 not UTF-8
other_numbers :
    map list_number
    (ascii "Trim(0,)" ∷ ascii "Trim(0,4294967296)" ∷ ascii "Trim(2,1)" ∷ ascii "Trim(0,4294967295)" ∷ ascii "Trim(0,2)++Trim(2,3)" ∷ (0xFF ∷ []) ∷ [])
    ≡ 3 ∷ 3 ∷ 4 ∷ 5 ∷ 6 ∷ 20 ∷ []
unfolding list_tokens list_number head_number step_of behind_end token_of closed_of pair_of bounds_of range_of token_number token_range token_end pieces pieces_from starts number unsigned natural value_from digits digit blank trim trim_tail trim_head keep_from head_from white_tail ends_white last white_head white white_high code_head code_by char_width width_by lead_len second_low second_high tail utf8 utf8_from ◌or_else◌ fault_unless tokens_of tokens_number
other_numbers = refl

-- one token more than are allowed
one_too_many : tokens_number 1 0 (tokens_of (ascii "Trim(0,2)++Trim(6,8)")) ≡ 7
unfolding step_of behind_end token_of closed_of pair_of bounds_of range_of token_number token_range token_end pieces pieces_from starts number unsigned natural value_from digits digit blank trim trim_tail trim_head keep_from head_from white_tail ends_white last white_head white white_high code_head code_by char_width width_by lead_len second_low second_high tail utf8 utf8_from ◌or_else◌ fault_unless tokens_of tokens_number
one_too_many = refl

-- one byte more than are allowed
too_long_lem : (s : List ℕ) → most_list_bytes < length s → list_number s ≡ 7
unfolding list_tokens list_number head_number ◌or_else◌ fault_unless
too_long_lem s h = rw (lt-leb (length s) most_list_bytes h)

long_list : list_number (replicate 65537 0x20) ≡ 7
long_list = too_long_lem (replicate 65537 0x20) (omega (arith, length-replicate {A = ℕ} 65537 0x20))
