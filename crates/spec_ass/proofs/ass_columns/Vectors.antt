-- Worked `Format:` lines, by computation: what stands after the word, and the number of columns, the places of Start and End, and the trimmings.
use mathlib.Core.Path.{◌≡◌, refl, ap, ◌∙◌}
use mathlib.Core.Bool.{Bool, true, false, cond}
use mathlib.Core.List.{List, [], ◌∷◌, ◌++◌, map}
use Prim.Native.Nat.{ℕ, suc}
use native.Mathlib.Omega.{arith}
use lib.Dec.{eqb}
use lib.ListN.{length}
use Rattle.spec_base.specs.base.Ascii.{ascii}
use Rattle.spec_base.specs.base.Part.{last}
use Rattle.spec_text.specs.utf8.Utf8.{lead_len, second_low, second_high, tail, width_by, char_width, code_by, code_head}
use Rattle.spec_text.specs.whitespace.White.{white_high, white, white_head, ends_white, white_tail, head_from, keep_from, trim_head, trim_tail, trim}
use Rattle.spec_text.specs.pattern.Find.{starts, equals}
use Rattle.spec_text.specs.pattern.Piece.{comma, onto_first, pieces_from, pieces}
use Rattle.spec_ass.specs.ass_columns.Columns.{names_in, place_in, columns_in}

-- ---- the trimmings are one more than the line's commas
abbrev commas : List ℕ → ℕ
commas [] = 0
commas (b ∷ s) = cond (eqb 44 b) (suc (commas s)) (commas s)

map_length : (ls : List (List ℕ)) → length (map trim ls) ≡ length ls
map_length [] = refl
map_length (l ∷ ls) = ap suc (map_length ls)

onto_length : (b n : ℕ) (ls : List (List ℕ)) → length ls ≡ suc n → length (onto_first b ls) ≡ suc n
onto_length b n [] e = absurd (omega arith)
onto_length b n (l ∷ ls) e = e

pieces_commas : (s : List ℕ) → length (pieces_from comma s 0) ≡ suc (commas s)
unfolding pieces_from starts
pieces_commas [] = refl
pieces_commas (b ∷ s) = go (eqb 44 b) (pieces_commas s)
  where
    go : (t : Bool) → length (pieces_from comma s 0) ≡ suc (commas s)
        → length (cond (cond t true false) ([] ∷ pieces_from comma s 0) (onto_first b (pieces_from comma s 0))) ≡ suc (cond t (suc (commas s)) (commas s))
    go true e = ap suc e
    go false e = onto_length b (commas s) (pieces_from comma s 0) e

pub trimmings : (s : List ℕ) → length (names_in s) ≡ suc (commas s)
unfolding names_in pieces
trimmings s = map_length (pieces comma s) ∙ pieces_commas s

-- ---- lines
abbrev row : List ℕ → List ℕ
row s = (columns_in s).columns ∷ (columns_in s).start ∷ (columns_in s).«end» ∷ length (names_in s) ∷ []

abbrev rows : List (List ℕ) → List (List ℕ)
rows [] = []
rows (s ∷ ss) = row s ∷ rows ss

-- an empty line has one column; names are trimmed of White_Space (U+3000 is 227, 128, 128; 9 is a tab) and compared whole; the first of each counts
worked : rows
    ([] ∷ ascii " Start, End, Text" ∷ ascii " Layer, Start, End, Style, Text" ∷ ascii " End,Start" ∷ ascii " Start,Start,End,End,Text" ∷
    ascii " start, End" ∷ ascii ",," ∷ ascii " Start ing, End, Start" ∷ ascii " StartEnd, Start" ∷
    ((227 ∷ 128 ∷ 128 ∷ ascii "Start") ++ (227 ∷ 128 ∷ 128 ∷ 44 ∷ 9 ∷ ascii "End")) ∷ [])
    ≡ (1 ∷ 0 ∷ 0 ∷ 1 ∷ []) ∷ (3 ∷ 1 ∷ 2 ∷ 3 ∷ []) ∷ (5 ∷ 2 ∷ 3 ∷ 5 ∷ []) ∷ (2 ∷ 2 ∷ 1 ∷ 2 ∷ []) ∷ (5 ∷ 1 ∷ 3 ∷ 5 ∷ []) ∷
    (2 ∷ 0 ∷ 2 ∷ 2 ∷ []) ∷ (3 ∷ 0 ∷ 0 ∷ 3 ∷ []) ∷ (3 ∷ 3 ∷ 2 ∷ 3 ∷ []) ∷ (2 ∷ 2 ∷ 0 ∷ 2 ∷ []) ∷ (2 ∷ 1 ∷ 2 ∷ 2 ∷ []) ∷ []
unfolding columns_in place_in names_in pieces pieces_from starts equals trim trim_tail trim_head keep_from head_from white_tail ends_white last white_head white white_high code_head code_by char_width width_by lead_len second_low second_high tail
worked = refl
