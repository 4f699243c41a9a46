-- The columns that a `Format:` line gives, and the fields of a caption line.
use Rattle.std.specs.Prelude.{true, false, cond, List, [], ◌∷◌, map, ℕ, zero, suc, length}
use Rattle.spec_text.specs.whitespace.White.{trim}
use Rattle.spec_text.specs.pattern.Find.{equals, contains, up_to, past}
use Rattle.spec_text.specs.pattern.Piece.{comma, pieces}
use Rattle.spec_ass.specs.declared.ass_columns.Columns.{Columns}

-- `Start`, `End`
abbrev pub start_name : List ℕ
start_name = 83 ∷ 116 ∷ 97 ∷ 114 ∷ 116 ∷ []

abbrev pub end_name : List ℕ
end_name = 69 ∷ 110 ∷ 100 ∷ []

-- the trimmed names in what stands after `Format:`
unfoldable pub names_in : List ℕ → List (List ℕ)
names_in s = map trim (pieces comma s)

-- a place, one further; 0 stays
abbrev pub further : ℕ → ℕ
further zero = 0
further (suc k) = suc (suc k)

-- the place of the first column of a name, from 1; 0: there is none
unfoldable pub place_in : (name : List ℕ) → List (List ℕ) → ℕ
place_in name [] = 0
place_in name (c ∷ cs) = cond (equals name c) 1 (further (place_in name cs))

-- what a `Format:` line in Events sets
unfoldable pub columns_in : List ℕ → Columns
columns_in s =
    record {
      events = true;
      columns = length (names_in s);
      start = place_in start_name (names_in s);
      «end» = place_in end_name (names_in s);
    }

-- the fields of what stands after `Dialogue:`, at most n of them: the last keeps its commas
unfoldable pub fields : (n : ℕ) → List ℕ → List (List ℕ)
fields zero s = []
fields (suc zero) s = s ∷ []
fields (suc (suc n)) s = cond (contains comma s) (up_to comma s ∷ fields (suc n) (past comma s)) (s ∷ [])

-- the field at a place from 1; empty where there is none
unfoldable pub field_at : (place : ℕ) → List (List ℕ) → List ℕ
field_at zero fs = []
field_at (suc k) [] = []
field_at (suc zero) (f ∷ fs) = f
field_at (suc (suc k)) (f ∷ fs) = field_at (suc k) fs

-- at first outside Events, columns unknown
abbrev pub no_columns : Columns
no_columns = record { events = false; columns = 0; start = 0; «end» = 0 }
