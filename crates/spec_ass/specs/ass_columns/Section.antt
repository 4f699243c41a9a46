-- The line that names a section, and only exactly `Events` counts.
use Rattle.std.specs.Prelude.{Bool, false, cond, List, [], ◌∷◌, ℕ, ◌-◌, eqb, ltb, length, take, drop, get_or}
use Rattle.spec_ass.specs.declared.ass_columns.Columns.{Columns}

-- `Events`
abbrev pub events_name : List ℕ
events_name = 69 ∷ 118 ∷ 101 ∷ 110 ∷ 116 ∷ 115 ∷ []

-- a trimmed text from `[` to `]`, two bytes or more
unfoldable pub bracketed : List ℕ → Bool
bracketed t = cond (ltb (length t) 2) false (cond (eqb (get_or t 0 0) 91) (eqb (get_or t (length t - 1) 0) 93) false)

-- what stands between the brackets
unfoldable pub inside : List ℕ → List ℕ
inside t = take (length t - 2) (drop 1 t)

-- the section is set, and the columns stay
abbrev pub in_section : Bool → Columns → Columns
in_section b c = record { events = b; columns = c.columns; start = c.start; «end» = c.«end» }
